-- What a caller of `round` finds, from what its parts tell.
use Rattle.std.proofs.Common.{◌≡◌, ℕ, ◌-◌, ◌<◌, ◌≤◌, Bool, true, false, cond, leb, List, [], ◌∷◌, length, take, drop, Some, None, Ok, Err, sym, refl, ap, ◌∙◌, subst, arith}
use Rattle.std.proofs.lemmas.List.{take_at}
use Rattle.std.proofs.lemmas.Bool.{le-leb, lt-leb, leb-true}
use Rattle.machine.specs.Equivalent.{Equivalent}
use Rattle.machine.specs.Programs.{Prog, IsProgram}
use Rattle.machine.specs.Reasons.{reason}
use Rattle.analysis.specs.Analyses.{MovesOf, MovesShow}
use Rattle.analysis.specs.Facts.{FactsOf, FactsShow}
use Rattle.settling.specs.Settling.{settled_facts, visits_told, table_after, SettleCall}
use Rattle.settling.proofs.Settled.{settled_length, settles}
use Rattle.rounds.specs.declared.change.Change.{Change}
use Rattle.rounds.specs.Rounds.{verdicts_by, declined, Makes, Round, RoundCall}
use Rattle.rounds.proofs.Decided.{round_equivalent}

module _ {Fact : Type 0} (v : FactsOf Fact) (m : MovesOf Fact) (p : Prog) (table : List Fact) (list : List Change) where
  pub declines_list : (n : ℕ) → n ≡ length p.entries → length list < n → n ≤ length table → RoundCall v m p table list (Err (reason 9 (n ∷ []))) p table list
  declines_list n count short room =
      let fits : leb (length p.entries) (length table) ≡ true = le-leb _ _ (omega arith) in
      let full : leb (length p.entries) (length list) ≡ false = lt-leb _ _ (omega arith) in
      let why : declined v m p (length table) (length list) ≡ Some (reason 9 (length p.entries ∷ [])) = cc in
      subst (λ o. Round v m p o table list (Err (reason 9 (n ∷ []))) p table list) (sym why) (ap (λ k. Err (reason 9 (k ∷ []))) count, refl, refl, refl)

  pub declines_table : (k : ℕ) (table' : List Fact) → SettleCall v m p table (Err (reason 8 (k ∷ []))) table' → RoundCall v m p table list (Err (reason 8 (k ∷ []))) p table' list
  declines_table k table' call = go (leb (length p.entries) (length table)) refl call.told call.facts
    where
      go : (b : Bool) → leb (length p.entries) (length table) ≡ b → Err (reason 8 (k ∷ [])) ≡ cond b (Ok (visits_told v m p)) (Err (reason 8 (length p.entries ∷ [])))
          → table' ≡ cond b (table_after v m p table) table → RoundCall v m p table list (Err (reason 8 (k ∷ []))) p table' list
      go true fits told facts = let z : ◌≡◌ {A = ℕ} 0 1 = cc in absurd (omega arith)
      go false full told facts =
          let why : declined v m p (length table) (length list) ≡ Some (reason 8 (length p.entries ∷ [])) = cc in
          let same : reason 8 (k ∷ []) ≡ reason 8 (length p.entries ∷ []) = cc in
          subst (λ o. Round v m p o table list (Err (reason 8 (k ∷ []))) p table' list) (sym why) (ap Err same, refl, facts, refl)

  -- a table that was settled has room, and begins with the settled facts
  pub record WasSettled (visits : ℕ) (table' : List Fact) : Type 0 where
    pub room : length p.entries ≤ length table
    pub visits_are : visits ≡ visits_told v m p
    pub table_is : table' ≡ table_after v m p table

  pub was_settled : (visits : ℕ) (table' : List Fact) → SettleCall v m p table (Ok visits) table' → WasSettled visits table'
  was_settled visits table' call = go (leb (length p.entries) (length table)) refl call.told call.facts
    where
      go : (b : Bool) → leb (length p.entries) (length table) ≡ b → Ok visits ≡ cond b (Ok (visits_told v m p)) (Err (reason 8 (length p.entries ∷ [])))
          → table' ≡ cond b (table_after v m p table) table → WasSettled visits table'
      go true fits told facts = record { room = leb-true _ _ fits; visits_are = cc; table_is = facts }
      go false full told facts = let z : ◌≡◌ {A = ℕ} 0 1 = cc in absurd (omega arith)

  module _ (shown : FactsShow v) (sound : MovesShow v m) (ok : IsProgram p) where
    pub front_settled : (n visits : ℕ) (table' : List Fact) → n ≡ length p.entries → WasSettled visits table' → take (n - 0) table' ≡ settled_facts v m p
    front_settled n visits table' count was =
        let long : length (settled_facts v m p) ≡ n - 0 = settled_length v m shown sound p ok ∙ (let e : length p.entries ≡ n - 0 = omega arith in e) in
        ap (take (n - 0)) was.table_is ∙ take_at (settled_facts v m p) (drop (length p.entries) table) (n - 0) long

    module _ (visits made short : ℕ) (facts table' : List Fact) (p' : Prog) (list' : List Change) (was : WasSettled visits table') (room : length p.entries ≤ length list)
        (is : facts ≡ settled_facts v m p) (makes : Makes (verdicts_by v m p facts) p list made short p' list') where
      makes_all : Makes (verdicts_by v m p (settled_facts v m p)) p list made short p' list'
      makes_all = subst (λ fs. Makes (verdicts_by v m p fs) p list made short p' list') is makes

      pub rounds : RoundCall v m p table list (Ok (record { made = made; short = short; visits = visits })) p' table' list'
      rounds =
          let fits : leb (length p.entries) (length table) ≡ true = le-leb _ _ was.room in
          let fits-list : leb (length p.entries) (length list) ≡ true = le-leb _ _ room in
          let why : declined v m p (length table) (length list) ≡ None = cc in
          let all = makes_all in
          let a = all.made_told in
          let b = all.short_told in
          let c = was.visits_are in
          subst (λ o. Round v m p o table list (Ok (record { made = made; short = short; visits = visits })) p' table' list') (sym why) (cc, all.program, was.table_is, all.lists)

      pub rounds_equivalent : Equivalent p p'
      rounds_equivalent = subst (Equivalent p) (sym makes_all.program) (round_equivalent v m sound p ok (settles v m shown sound p ok).sound)
