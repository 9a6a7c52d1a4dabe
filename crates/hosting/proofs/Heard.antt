-- What a host hears, of one event and of a process's events.
use mathlib.Core.Path.{◌≡◌, refl, ap, sym, ◌∙◌}
use mathlib.Core.Bool.{false, cond}
use mathlib.Core.List.{List, [], ◌∷◌, append-nil}
use Prim.Native.Nat.{ℕ, zero, suc, ◌<◌}
use lib.IntN.{ℤ}
use native.Mathlib.Omega.{arith}
use lib.ListN.{length, get_or, take}
use Rattle.lists.specs.Lists.{filter}
use Rattle.lists.proofs.Tests.{cases, never}
use Rattle.rules.specs.declared.event.Event.{Event}
use Rattle.rules.specs.declared.answer.Answer.{Answer}
use Rattle.rules.specs.Answers.{reason_number, reason_of}
use Rattle.rules.specs.Events.{is_query, step}
use Rattle.rules.specs.History.{Named, process, nobody, named, is_kept, is_process, belongs, kept_for, entries_of}
use Rattle.vradomil.specs.Host.{seen, report_bytes, report_size, laid_over}
use Rattle.vradomil.proofs.Reports.{none_taken}
use Rattle.hosting.specs.Hosts.{Hosted, heard, hears, hears_all}

-- of a report laid over n bytes, the first n can be read
report_read : (a : Answer) (n : ℕ) (lent : List ℕ) → length lent ≡ n → take report_size (laid_over (report_bytes a) lent) ≡ take n (report_bytes a)
report_read a zero [] h = refl
report_read a zero (x ∷ l) h = never (cc)
report_read a (suc n) [] h = never (cc)
report_read a (suc n) (x ∷ l) h = ap (◌∷◌ (reason_number (reason_of a))) (none_taken n [] ∙ append-nil (take n []))

-- its first byte is the reason, and no other byte changes
pub reported : (a : Answer) (lent : List ℕ) {told : List ℕ} → told ≡ laid_over (report_bytes a) lent
    → (length told ≡ length lent) × (0 < length lent → get_or told 0 0 ≡ reason_number (reason_of a)) × ((i : ℕ) → 0 < i → get_or told i 0 ≡ get_or lent i 0)
reported a lent h = rw h (laid a lent)
  where
    laid : (a : Answer) (lent : List ℕ) → let told = laid_over (report_bytes a) lent in
        (length told ≡ length lent) × (0 < length lent → get_or told 0 0 ≡ reason_number (reason_of a)) × ((i : ℕ) → 0 < i → get_or told i 0 ≡ get_or lent i 0)
    laid a [] = (refl, λ l. never (omega (arith, l)), λ i l. refl)
    laid a (x ∷ l) = (ap suc (ap length (sym (none_taken (length l) l))), λ h. refl, later)
      where
        later : (i : ℕ) → 0 < i → get_or (laid_over (report_bytes a) (x ∷ l)) i 0 ≡ get_or (x ∷ l) i 0
        later zero h = never (omega (arith, h))
        later (suc i) h = ap (λ k. get_or k i 0) (sym (none_taken (length l) l))

pub heard_is : (room : Event → ℕ) {e : Event} {b m lent b1 m1 told : List ℕ} {r : ℤ} → length lent ≡ room e → Hosted e b m lent r b1 m1 told
    → heard e r told ≡ hears room e (step e (seen b m)).answer
heard_is room {e} {b} {m} {lent} {told = told} {r} long h =
    let a = (step e (seen b m)).answer in
    let report : cond (is_query e) [] (take report_size told) ≡ cond (is_query e) [] (take (room e) (report_bytes a)) = cases (is_query e)
    (λ q. rw q)
    (λ q.
    let laid : told ≡ laid_over (report_bytes a) lent = h.report ∙ rw q in
    rw q (ap (take report_size) laid ∙ report_read a (room e) lent long)) in
    λ j. record { number = h.number j; report = report j }

-- What is heard of a process's events, by its events and their answers alone.
pub heard_own : (room : Event → ℕ) (p : ℕ) (h : List Event) (l : List Answer) → entries_of p h (hears_all room h l) ≡ hears_all room (filter (belongs p) h) (entries_of p h l)
heard_own room p [] l = refl
heard_own room p (e ∷ es) [] = empty (filter (belongs p) (e ∷ es))
  where
    empty : (h : List Event) → [] ≡ hears_all room h []
    empty [] = refl
    empty (d ∷ ds) = refl
heard_own room p (e ∷ es) (a ∷ l) = let ih = heard_own room p es l in cases (belongs p e) (λ k. rw (k, ih)) (λ k. rw (k, ih))

-- its events are those of the history that is left when the others are struck
kept_if : (p : ℕ) (o : Named) → is_kept p o ≡ false → is_process p o ≡ false
kept_if p (process q) h = h
kept_if p nobody h = refl

own_kept : (p : ℕ) (h : List Event) → filter (belongs p) (kept_for p h) ≡ filter (belongs p) h
own_kept p [] = refl
own_kept p (e ∷ es) =
    let ih = own_kept p es in
    cases (is_kept p (named e))
    (λ k. cases (belongs p e) (λ o. rw (k, o, ih)) (λ o. rw (k, o, ih)))
    (λ k. rw (k, kept_if p (named e) k, ih))

pub same_own : (p : ℕ) (g h : List Event) → kept_for p g ≡ kept_for p h → filter (belongs p) g ≡ filter (belongs p) h
same_own p g h e = sym (own_kept p g) ∙ ap (filter (belongs p)) e ∙ own_kept p h
