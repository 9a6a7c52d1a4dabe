-- Bytes that stand for a world: what each entry point leaves stands for what the rules leave.
use mathlib.Core.Path.{◌≡◌, refl, sym, ap, ◌∙◌}
use mathlib.Core.Bool.{Bool, true, false}
use mathlib.Core.List.{List}
use Prim.Native.Nat.{ℕ}
use lib.IntN.{ℤ, pos, negsuc}
use Rattle.lists.proofs.Tests.{cases, clash}
use Rattle.rules.specs.declared.event.Event.{Event}
use Rattle.rules.specs.declared.event.Event.TheVariants.{Call as CallEvent, Store, Clock, Interrupt, Query, SetPriority}
use Rattle.rules.specs.declared.answer.Answer.{Answer}
use Rattle.rules.specs.declared.answer.Answer.TheVariants.{Asleep, Count, Refused, Waiting}
use Rattle.tables.specs.Tables.{World, write_word}
use Rattle.tables.proofs.Sound.{sound_tables}
use Rattle.rules.specs.Answers.{is_refused}
use Rattle.rules.specs.Events.{refusals, clock_effect, panel, effect, step}
use Rattle.rules.proofs.Rows.{step_keeps}
use Rattle.rules.proofs.Preserved.{Valid, step_valid}
use Rattle.rules.proofs.Theorems.{refusal_leaves_all}
use Rattle.kernel.proofs.Events.{interrupt_words}
use Rattle.layout.specs.Layout.{tables_bytes, words_bytes, words_at}
use Rattle.changes.proofs.Faithful.{tables_back}
use Rattle.vradomil.specs.Host.{seen, tables_left, words_left, host_number, EventFits}
use Rattle.vradomil.proofs.Theorems.{words_stand}
use Rattle.hosting.specs.Hosts.{Hosted, touches_tables, touches_words}
use Rattle.hosting.proofs.Fitting.{FitsWorld, step_fits}

-- what an event does not touch
state_kept : (e : Event) (w : World) → touches_tables e ≡ false → (step e w).world.state ≡ w.state
unfolding effect write_word
state_kept (CallEvent c) w h = clash true refl h
state_kept (Store p a v) w h = step_keeps (λ u. u.state ≡ w.state) (Store p a v) w refl (λ h. refl)
state_kept (Clock now) w h = clash true refl h
state_kept (Interrupt p i) w h = clash true refl h
state_kept (SetPriority p i n) w h = clash true refl h
state_kept (Query p) w h = step_keeps (λ u. u.state ≡ w.state) (Query p) w refl (λ h. refl)

words_kept : (e : Event) (w : World) → touches_words e ≡ false → (step e w).world.words ≡ w.words
unfolding effect clock_effect
words_kept (CallEvent c) w h = clash true refl h
words_kept (Store p a v) w h = clash true refl h
words_kept (Clock now) w h = step_keeps (λ u. u.words ≡ w.words) (Clock now) w refl (λ h. refl)
words_kept (Interrupt p i) w h = step_keeps (λ u. u.words ≡ w.words) (Interrupt p i) w refl (λ h. interrupt_words _ w)
words_kept (SetPriority p i n) w h = step_keeps (λ u. u.words ≡ w.words) (SetPriority p i n) w refl (λ h. refl)
words_kept (Query p) w h = step_keeps (λ u. u.words ≡ w.words) (Query p) w refl (λ h. refl)

pub asked : (p : ℕ) (w : World) → (step (Query p) w).world ≡ w
unfolding step refusals effect
asked p w = refl

pub shown : (p : ℕ) (w : World) → (step (Query p) w).answer ≡ Waiting (panel p w.state)
unfolding step refusals effect
shown p w = refl

-- On any bytes: the number is the answer's, and a refusal leaves every byte.
pub refused_stays : {e : Event} {b m lent b1 m1 told : List ℕ} {r : ℤ} → Hosted e b m lent r b1 m1 told → is_refused (step e (seen b m)).answer ≡ true → (b1 ≡ b) × (m1 ≡ m)
refused_stays {e} h is = (
  h.tables ∙ cases (touches_tables e) (λ k. rw (k, is)) (λ k. rw k),
  h.words ∙ cases (touches_words e) (λ k. rw (k, is)) (λ k. rw k),
)

-- only a refusal is below 0
abbrev below_zero_lem : ℤ → Bool
below_zero_lem (pos n) = false
below_zero_lem (negsuc n) = true

pub below_refused : (a : Answer) (n : ℕ) → negsuc n ≡ host_number a → is_refused a ≡ true
below_refused Asleep n h = ap below_zero_lem (sym h)
below_refused (Count k) n h = ap below_zero_lem (sym h)
below_refused (Refused x) n h = refl
below_refused (Waiting v) n h = ap below_zero_lem (sym h)

pub record Stand (b m : List ℕ) (w : World) : Type 0 where
  pub tables : b ≡ tables_bytes w.state
  pub words : m ≡ words_bytes w.words
  pub valid : Valid w
  pub fits : FitsWorld w

pub seen_is : (b m : List ℕ) (w : World) → Stand b m w → seen b m ≡ w
seen_is b m w s =
    let tables = tables_back w.state b (record { bytes = s.tables; sound = sound_tables w.state s.valid.sound }) s.fits.state in
    let words = ap words_at s.words ∙ words_stand w.words s.valid.memory (λ i l. s.fits.words i) in
    λ j. record { state = tables j; words = words j }

module _ (b m : List ℕ) (s : Stand b m (seen b m)) where
  -- a refusal leaves the bytes, and they still stand for the world
  refused_world : (e : Event) (a : Answer) → (step e (seen b m)).answer ≡ a → is_refused a ≡ true → (step e (seen b m)).world ≡ seen b m
  refused_world e (Refused x) is h = refusal_leaves_all e (seen b m) x is
  refused_world e Asleep is h = clash false h refl
  refused_world e (Count n) is h = clash false h refl
  refused_world e (Waiting v) is h = clash false h refl

  left_tables : (e : Event) → tables_left (step e (seen b m)) b ≡ tables_bytes (step e (seen b m)).world.state
  left_tables e = cases (is_refused (step e (seen b m)).answer)
      (λ r. rw r (s.tables ∙ ap (λ (v : World). tables_bytes v.state) (sym (refused_world e (step e (seen b m)).answer refl r))))
      (λ r. rw r)

  left_words : (e : Event) → words_left (step e (seen b m)) m ≡ words_bytes (step e (seen b m)).world.words
  left_words e = cases (is_refused (step e (seen b m)).answer)
      (λ r. rw r (s.words ∙ ap (λ (v : World). words_bytes v.words) (sym (refused_world e (step e (seen b m)).answer refl r))))
      (λ r. rw r)

  left : (e : Event) {b1 m1 : List ℕ} → EventFits e → b1 ≡ tables_bytes (step e (seen b m)).world.state → m1 ≡ words_bytes (step e (seen b m)).world.words
      → Stand b1 m1 (step e (seen b m)).world
  left e f tables words = record { tables = tables; words = words; valid = step_valid e (seen b m) s.valid; fits = step_fits e (seen b m) f s.fits }

  pub stepped : {e : Event} {lent b1 m1 told : List ℕ} {r : ℤ} → Hosted e b m lent r b1 m1 told → Stand b1 m1 (step e (seen b m)).world
  stepped {e} h = left e h.fits
      (h.tables ∙ cases (touches_tables e)
      (λ k. rw k (left_tables e))
      (λ k. rw k (s.tables ∙ ap tables_bytes (sym (state_kept e (seen b m) k)))))
      (h.words ∙ cases (touches_words e)
      (λ k. rw k (left_words e))
      (λ k. rw k (s.words ∙ ap words_bytes (sym (words_kept e (seen b m) k)))))
