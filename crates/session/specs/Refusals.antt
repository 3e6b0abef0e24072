-- The number and the values of each refusal.
use Rattle.std.specs.Prelude.{[], ◌∷◌}
use Rattle.machine.specs.Reasons.{Reason, reason}
use Rattle.machine.specs.Runs.{reason_of as run_reason}
use Rattle.rounds.specs.Rounds.{reason_of as round_reason}
use Rattle.text.specs.Texts.{Place, refusal_told}
use Rattle.session.specs.declared.refusal.Refusal.{Refusal}
use Rattle.session.specs.declared.refusal.Refusal.TheVariants.{Text, Run, Round, ShortBuffer}

-- a fault of a text: its number, with its line and its word
abbrev pub text_reason : Place → Reason
text_reason p = reason p.0 (p.1 ∷ p.2 ∷ [])

abbrev pub reason_of : Refusal → Reason
reason_of (Text f) = text_reason (refusal_told f)
reason_of (Run f) = run_reason f
reason_of (Round f) = round_reason f
reason_of (ShortBuffer due) = reason 12 (due ∷ [])
