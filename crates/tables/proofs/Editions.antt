-- The edition that holds: "Each has eight threads"; "From now on wake and requeue take matching sleepers by higher base priority".
use mathlib.Core.Path.{◌≡◌, refl}
use Rattle.tables.specs.Editions.{by_priority, present}

pub present_is : (present.per_process ≡ 8) × (present.order ≡ by_priority)
present_is = (refl, refl)
