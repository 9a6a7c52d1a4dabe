-- A history can be run exactly if its events fit, and in one way only.
use mathlib.Core.Path.{◌≡◌, refl, sym, subst₂, ◌∙◌}
use mathlib.Core.List.{List, [], ◌∷◌}
use Prim.Native.Nat.{ℕ}
use lib.IntN.{ℤ}
use lib.ListN.{length, replicate, length-replicate}
use Rattle.rules.specs.declared.event.Event.{Event}
use Rattle.vradomil.specs.Host.{EventFits}
use Rattle.hosting.specs.Hosts.{Hosted, Heard, heard, HostRuns, over, next, HistoryFits}
use Rattle.hosting.proofs.Heard.{heard_is}

-- one event, with so many bytes lent for its report
pub record Passes (e : Event) (b m lent : List ℕ) : Type 0 where
  pub number : ℤ
  pub tables : List ℕ
  pub words : List ℕ
  pub told : List ℕ
  pub hosted : Hosted e b m lent number tables words told

pub passes : (e : Event) (b m lent : List ℕ) → EventFits e → Passes e b m lent
passes e b m lent f = record { number = _; tables = _; words = _; told = _; hosted = record { number = refl; tables = refl; words = refl; report = refl; fits = f } }

one_way : (room : Event → ℕ) {e : Event} {b m lent other b1 m1 told b2 m2 said : List ℕ} {r s : ℤ} → length lent ≡ room e → length other ≡ room e
    → Hosted e b m lent r b1 m1 told → Hosted e b m other s b2 m2 said → (heard e r told ≡ heard e s said) × (b1 ≡ b2) × (m1 ≡ m2)
one_way room l k f g = (heard_is room l f ∙ sym (heard_is room k g), f.tables ∙ sym g.tables, f.words ∙ sym g.words)

-- a history
pub runs : (room : Event → ℕ) (h : List Event) (b m : List ℕ) → HistoryFits h
    → (hs : List Heard) × (b' : List ℕ) × (m' : List ℕ) × HostRuns room h b m hs b' m'
runs room [] b m f = ([], b, m, over)
runs room (e ∷ es) b m f =
    let one = passes e b m (replicate (room e) 0) f.0 in
    let rest = runs room es one.tables one.words f.1 in
    (heard e one.number one.told ∷ rest.0, rest.1, rest.2, next (length-replicate {A = ℕ} (room e) 0) one.hosted rest.3)

pub all_fit : {room : Event → ℕ} {h : List Event} {b m b' m' : List ℕ} {hs : List Heard} → HostRuns room h b m hs b' m' → HistoryFits h
all_fit over = tt
all_fit (next l h run) = (h.fits, all_fit run)

pub runs_one_way : (room : Event → ℕ) {h : List Event} {b m b1 m1 b2 m2 : List ℕ} {hs ks : List Heard}
    → HostRuns room h b m hs b1 m1 → HostRuns room h b m ks b2 m2 → (hs ≡ ks) × (b1 ≡ b2) × (m1 ≡ m2)
runs_one_way room over over = (refl, refl, refl)
runs_one_way room (next {es = es} {b2 = b2} {m2} l f run) (next {b2 = c2} {m2 = n2} {hs = ks} k g other) =
    let one = one_way room l k f g in
    let rest = runs_one_way room run (subst₂ (λ x y. HostRuns room es x y ks c2 n2) (sym one.1) (sym one.2) other) in
    (λ j. one.0 j ∷ rest.0 j, rest.1, rest.2)
