use Rattle.session.specs.Calls.{held}
use Rattle.session.proofs.Did.{tidy_did}
use Rattle.session.proofs.session.Session.tidy.Goals as goal

pub returns-clause-did : goal.returns-clause-did
returns-clause-did c = tidy_did (held c.args.self.now) _ c.tidy.ensures.exact
