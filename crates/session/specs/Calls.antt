-- What each call does to the session, its result and its buffers.
use Rattle.std.specs.Prelude.{◌≡◌, ℕ, cond, List, [], ◌∷◌, ◌++◌, length, drop, Some, Ok, Err, Result, MatchResult, nat_le}
use Rattle.std.specs.Option.{option_map}
use Rattle.machine.specs.Programs.{Prog, program_of}
use Rattle.machine.specs.Reasons.{Reason, reason}
use Rattle.text.specs.Print.{printed}
use Rattle.text.specs.Reads.{SpellsJust}
use Rattle.text.specs.Texts.{text_fault}
use Rattle.session.specs.declared.refusal.Refusal.{Refusal}
use Rattle.session.specs.declared.session.Session.{Session}
use Rattle.session.specs.Refusals.{reason_of, text_reason}

-- the program that a session holds
abbrev pub held : Session → Prog
held s = program_of s.program

abbrev pub numbered : {V : Type 0} → Result V Refusal → Result V Reason
numbered (Ok v) = Ok v
numbered (Err e) = Err (reason_of e)

-- the session holds the one program that the text spells, and its nodes are told; or the text's first fault is told, and the session is as it was
abbrev pub ReadCall : List ℕ → Prog → Result ℕ Refusal → Prog → Type 0
ReadCall text before r after =
    MatchResult r (λ nodes. SpellsJust text after × (nodes ≡ length after.entries))
    (λ e. (option_map text_reason (text_fault text) ≡ Some (reason_of e)) × (after ≡ before))

-- the program's text begins a buffer that is long enough, and the rest of it is as before; a shorter one is as it was, and the bytes due are told
pub record PrintCall (p : Prog) (before : List ℕ) (r : Result ℕ Reason) (after : List ℕ) : Type 0 where
  pub told : r ≡ cond (nat_le (length (printed p)) (length before)) (Ok (length (printed p))) (Err (reason 12 (length (printed p) ∷ [])))
  pub put : after ≡ cond (nat_le (length (printed p)) (length before)) (printed p ++ drop (length (printed p)) before) before
