use mathlib.Core.Path.{◌∙◌}
use Rattle.hosting.proofs.Passing.{wide, by_query, of_event}
use Rattle.hosting.proofs.pass.Goals as goal

pub returns-in-Query : goal.returns-in-Query
returns-in-Query c = of_event c.in-Query.is (wide c.into-in-Query.result c.into-in-Query.type_inv ∙ c.into-in-Query.ensures) (by_query c.vradomil_query.ensures)
