-- What a call took fixes what it left: every record, the order of the list, the clock and the words.
use mathlib.Core.Path.{◌≡◌, sym, ◌∙◌}
use mathlib.Core.List.{List}
use Prim.Native.Nat.{ℕ}
use Rattle.lists.specs.Lists.{elem}
use Rattle.lists.proofs.Tests.{cases}
use Rattle.tables.specs.declared.State.{State}
use Rattle.tables.specs.declared.LastAnswer.{LastAnswer}
use Rattle.rules.specs.declared.event.Command.{Command}
use Rattle.rules.specs.declared.event.Call.{Call}
use Rattle.tables.specs.Tables.{World, thread_of, arrivals}
use Rattle.rules.specs.Claims.{Took, Takes}

module _ {a : LastAnswer} {out on : List ℕ} {target : ℕ} {s u v : State} (g : Took a out on target s u) (h : Took a out on target s v) where
  pub took_records : (t : ℕ) → thread_of u t ≡ thread_of v t
  took_records t = cases (elem t out)
      (λ e. g.ran t e ∙ sym (h.ran t e))
      (λ e. cases (elem t on) (λ d. g.went t d ∙ sym (h.went t d)) (λ d. g.stayed t e d ∙ sym (h.stayed t e d)))

  pub took_order : arrivals u ≡ arrivals v
  took_order = g.order ∙ sym h.order

pub takes_fixes : {k : Command} {c : Call} {w u v : World} → Takes k c w u → Takes k c w v
    → ((t : ℕ) → thread_of u.state t ≡ thread_of v.state t) × (arrivals u.state ≡ arrivals v.state)
    × (u.state.clock ≡ v.state.clock)
    × (u.words ≡ v.words)
takes_fixes g h =
    (took_records g.took h.took, took_order g.took h.took, g.clock ∙ sym h.clock, g.words ∙ sym h.words)
