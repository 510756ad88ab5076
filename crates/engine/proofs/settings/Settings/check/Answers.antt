use Rattle.std.proofs.Common.{sym}
use Rattle.engine.proofs.Making.{below_wider}
use Rattle.engine.proofs.settings.Settings.check.Goals as goal

pub returns-clause-low : goal.returns-clause-low
returns-clause-low c = rw (← c.self.view_is) (below_wider c.self.inside.places.now c.len.result 512 c.len.ensures.few (sym c.if-not-all_below.ensures))
