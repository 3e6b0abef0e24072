use Rattle.session.proofs.Promised.{promised}
use Rattle.session.proofs.series.every_series.Goals as goal

pub returns : goal.returns
returns g c = promised (g.S.Series.calls c.args.series.now)
