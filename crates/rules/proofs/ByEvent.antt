-- By cases on an event: a call or another, a panel query or another.
use mathlib.Core.Path.{◌≡◌, refl}
use mathlib.Core.Bool.{false}
use Prim.Native.Nat.{ℕ}
use Rattle.rules.specs.declared.event.Call.{Call}
use Rattle.rules.specs.declared.event.Event.{Event}
use Rattle.rules.specs.declared.event.Event.TheVariants.{Call as CallEvent, Store, Clock, Interrupt, Query, SetPriority}
use Rattle.rules.specs.Events.{is_query, of_call}

-- what holds of every call, and of every event of which nothing is asked, holds of every event
pub by_call {ℓ} : (P : Event → Type ℓ) → ((c : Call) → P (CallEvent c)) → ((e : Event) → ((A : Type 0) (f : Call → A) (x : A) → of_call f x e ≡ x) → P e)
    → (e : Event) → P e
by_call P calls others (CallEvent c) = calls c
by_call P calls others (Store p a v) = others (Store p a v) (λ A f x. refl)
by_call P calls others (Clock now) = others (Clock now) (λ A f x. refl)
by_call P calls others (Interrupt p i) = others (Interrupt p i) (λ A f x. refl)
by_call P calls others (Query p) = others (Query p) (λ A f x. refl)
by_call P calls others (SetPriority p i n) = others (SetPriority p i n) (λ A f x. refl)

pub no_call : {A : Type 0} (f : Call → A) (x : A) (e : Event) → ((c : Call) → e ≡ CallEvent c → ⊥) → of_call f x e ≡ x
no_call {A = A} f x = by_call (λ e. ((c : Call) → e ≡ CallEvent c → ⊥) → of_call f x e ≡ x) (λ c h. absurd (h c refl)) (λ e none h. none A f x)

pub by_query {ℓ} : (P : Event → Type ℓ) → ((p : ℕ) → P (Query p)) → ((e : Event) → is_query e ≡ false → P e) → (e : Event) → P e
by_query P queries others (CallEvent c) = others (CallEvent c) refl
by_query P queries others (Store p a v) = others (Store p a v) refl
by_query P queries others (Clock now) = others (Clock now) refl
by_query P queries others (Interrupt p i) = others (Interrupt p i) refl
by_query P queries others (Query p) = queries p
by_query P queries others (SetPriority p i n) = others (SetPriority p i n) refl
