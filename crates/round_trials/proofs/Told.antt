-- What settling and a round tell where the table has room for every node.
use Rattle.std.proofs.Common.{◌≡◌, ℕ, ◌≤◌, Bool, true, false, cond, leb, List, [], ◌∷◌, length, Some, None, Ok, Err, Result, ap, ◌∙◌, arith}
use Rattle.std.proofs.lemmas.Bool.{le-leb}
use Rattle.machine.specs.Limits.{node_limit}
use Rattle.machine.specs.Programs.{Prog, IsProgram}
use Rattle.machine.specs.Reasons.{Reason, reason}
use Rattle.analysis.specs.Analyses.{MovesOf}
use Rattle.analysis.specs.Facts.{FactsOf}
use Rattle.settling.specs.Settling.{visits_told, SettleCall}
use Rattle.rounds.specs.declared.change.Change.{Change}
use Rattle.rounds.specs.declared.change.Counts.{Counts}
use Rattle.rounds.specs.Rounds.{counts_told, Round, RoundCall}
use Rattle.round_trials.specs.Driven.{told_of}

module _ {Fact : Type 0} (v : FactsOf Fact) (m : MovesOf Fact) (p : Prog) (ok : IsProgram p) (table : List Fact) (room : node_limit ≤ length table) where
  fits : leb (length p.entries) (length table) ≡ true
  fits = le-leb _ _ (omega (arith, ok.counted))

  pub settles_told : (r : Result ℕ Reason) (table' : List Fact) → SettleCall v m p table r table' → r ≡ Ok (visits_told v m p)
  settles_told r table' call =
      call.told ∙ ap (λ b. cond b (Ok (visits_told v m p)) (Err (reason 8 (length p.entries ∷ [])))) fits

  pub round_told : (list : List Change) (r : Result Counts Reason) (p' : Prog) (table' : List Fact) (list' : List Change)
      → RoundCall v m p table list r p' table' list' → r ≡ told_of v m p (length list)
  round_told list r p' table' list' call = go (leb (length p.entries) (length table)) (leb (length p.entries) (length list)) fits call
    where
      go : (a b : Bool) → a ≡ true → Round v m p (cond a (cond b None (Some (reason 9 (length p.entries ∷ [])))) (Some (reason 8 (length p.entries ∷ [])))) table list r p' table' list'
          → r ≡ cond b (Ok (counts_told v m p)) (Err (reason 9 (length p.entries ∷ [])))
      go true true e call = call.0
      go true false e call = call.0
      go false b e call = let z : ◌≡◌ {A = ℕ} 0 1 = cc in absurd (omega arith)
