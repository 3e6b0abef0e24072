use Rattle.std.proofs.Common.{length, Ok, Err, refl, ap}
use Rattle.std.specs.Option.{option_map}
use Rattle.machine.specs.Programs.{program_of}
use Rattle.session.specs.declared.refusal.Refusal.TheVariants.{Text}
use Rattle.session.specs.Calls.{held, ReadCall}
use Rattle.session.specs.Refusals.{text_reason}
use Rattle.session.proofs.Did.{read_did}
use Rattle.session.proofs.session.Session.read.Goals as goal

pub returns-clause-did : goal.returns-clause-did
returns-clause-did c =
    let held_now = program_of c.in_ok-program.program in
    read_did c.args.text.now (held c.args.self.now) (Ok (length held_now.entries)) held_now (c.in_ok-program.ensures, refl)

pub returns-in_err-program-clause-did : goal.returns-in_err-program-clause-did
returns-in_err-program-clause-did c =
    let exact : ReadCall c.args.text.now (held c.args.self.now) (Err (Text c.in_err-program.field-0.0)) (held c.args.self.now) = (ap (option_map text_reason) c.in_err-program.ensures, refl) in
    read_did c.args.text.now (held c.args.self.now) (Err (Text c.in_err-program.field-0.0)) (held c.args.self.now) exact
