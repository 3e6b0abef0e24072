-- The loop of a round: what is left of it gives what the whole gives.
use Rattle.std.proofs.Common.{◌≡◌, ℕ, suc, ◌+◌, ◌-◌, ◌<◌, ◌≤◌, true, false, cond, leb, List, [], ◌∷◌, ◌++◌, map, length, take, drop, set, Some, None, sym, refl, ap, ◌∙◌, subst, append_assoc, arith}
use Rattle.std.proofs.lemmas.List.{append-nil, length-map, length-set, length-take-le, map-append, take_more_set, drop-drop, drop-set-lt}
use Rattle.std.proofs.lemmas.Bool.{le-leb, lt-leb}
use Rattle.machine.specs.Every.{Every, every_push}
use Rattle.machine.specs.Limits.{node_limit}
use Rattle.machine.specs.Programs.{Prog}
use Rattle.machine.specs.Runs.{entry_of}
use Rattle.analysis.specs.Analyses.{MovesOf}
use Rattle.analysis.specs.Facts.{FactsOf}
use Rattle.rounds.specs.declared.change.Change.{Change}
use Rattle.rounds.specs.Changes.{Replacement, replacement_of, in_form, changed_by, changed_by_all}
use Rattle.rounds.specs.Rounds.{Verdicts, no_verdicts, with_made, with_short, size_after, judged, offered, decided, verdicts_by, Makes}
use Rattle.rounds.proofs.Changed.{changed_length, changed_longer, changed_elsewhere}
use Rattle.rounds.proofs.Decided.{offered_from_pile}

all_but_last : (p : Prog) (cs : List Replacement) (c : Replacement) → changed_by_all p (cs ++ c ∷ []) ≡ changed_by (changed_by_all p cs) c
all_but_last p [] c = refl
all_but_last p (d ∷ cs) c = all_but_last (changed_by p d) cs c

-- what the list says so far
abbrev pub listed : ℕ → List Change → List Replacement
listed made changes = map replacement_of (take made changes)

-- before node i: the program is q, and the first `made` entries of the list are those of the changes made
pub record Rounding {Fact : Type 0} (v : FactsOf Fact) (m : MovesOf Fact) (p : Prog) (facts : List Fact) (list : List Change) (i : ℕ) (q : Prog) (changes : List Change) (made short : ℕ) : Type 0 where
  pub few : made + short ≤ i
  pub program : q ≡ changed_by_all p (listed made changes)
  pub made_all : listed made changes ++ (decided v m p facts (length p.entries - i) i (length q.entries)).made ≡ (verdicts_by v m p facts).made
  pub short_all : short + (decided v m p facts (length p.entries - i) i (length q.entries)).short ≡ (verdicts_by v m p facts).short
  pub forms : Every (λ c. in_form c ≡ true) (take made changes)
  pub rest : drop made changes ≡ drop made list
  pub long : length changes ≡ length list
  pub old : (k : ℕ) → i ≤ k → k < length p.entries → entry_of q k ≡ entry_of p k
  pub size : length p.entries ≤ length q.entries

module _ {Fact : Type 0} (v : FactsOf Fact) (m : MovesOf Fact) (p : Prog) (facts : List Fact) (list : List Change) where
  pub rounding_starts : Rounding v m p facts list 0 p list 0 0
  rounding_starts =
      let whole : length p.entries - 0 ≡ length p.entries = omega arith in
      record {
        few = omega arith;
        program = refl;
        made_all = ap (λ k. (decided v m p facts k 0 (length p.entries)).made) whole;
        short_all = omega (arith, ap (λ k. (decided v m p facts k 0 (length p.entries)).short) whole);
        forms = tt;
        rest = refl;
        long = refl;
        old = λ k far below. refl;
        size = omega arith;
      }

  module _ (i : ℕ) (q : Prog) (changes : List Change) (made short : ℕ) (was : Rounding v m p facts list i q changes made short) (below : i < length p.entries) where
    step : (size : ℕ) → decided v m p facts (length p.entries - i) i size ≡ judged (offered v m p facts i) size (λ s. decided v m p facts (length p.entries - (i + 1)) (i + 1) s)
    unfolding decided
    step size =
        let fuel : length p.entries - i ≡ suc (length p.entries - (i + 1)) = omega arith in
        let later : suc i ≡ i + 1 = omega arith in
        ap (λ k. decided v m p facts k i size) fuel
        ∙ ap (λ j. judged (offered v m p facts i) size (λ s. decided v m p facts (length p.entries - (i + 1)) j s)) later

    -- nothing is changed at node i
    pub rounding_none : offered v m p facts i ≡ None → Rounding v m p facts list (i + 1) q changes made short
    rounding_none none =
        let after : decided v m p facts (length p.entries - i) i (length q.entries) ≡ decided v m p facts (length p.entries - (i + 1)) (i + 1) (length q.entries) =
        step (length q.entries) ∙ ap (λ o. judged o (length q.entries) (λ s. decided v m p facts (length p.entries - (i + 1)) (i + 1) s)) none in
        record {
          few = let f = was.few in omega arith;
          program = was.program;
          made_all = ap (λ r. listed made changes ++ r.made) (sym after) ∙ was.made_all;
          short_all = ap (λ r. short + r.short) (sym after) ∙ was.short_all;
          forms = was.forms;
          rest = was.rest;
          long = was.long;
          old = λ k far under. was.old k (omega arith) under;
          size = was.size;
        }

    -- there is no room for the change
    pub rounding_short : (c : Replacement) → offered v m p facts i ≡ Some c → node_limit < size_after c (length q.entries)
        → Rounding v m p facts list (i + 1) q changes made (short + 1)
    rounding_short c some over =
        let rest : ℕ → Verdicts = λ s. decided v m p facts (length p.entries - (i + 1)) (i + 1) s in
        let full : leb (size_after c (length q.entries)) node_limit ≡ false = lt-leb _ _ over in
        let after : decided v m p facts (length p.entries - i) i (length q.entries) ≡ with_short (rest (length q.entries)) =
        step (length q.entries) ∙ ap (λ o. judged o (length q.entries) rest) some
        ∙ ap (λ b. cond b (with_made c (rest (size_after c (length q.entries)))) (with_short (rest (length q.entries)))) full in
        record {
          few = let f = was.few in omega arith;
          program = was.program;
          made_all = ap (λ r. listed made changes ++ r.made) (sym after) ∙ was.made_all;
          short_all = omega (arith, was.short_all, ap (λ r. r.short) after);
          forms = was.forms;
          rest = was.rest;
          long = was.long;
          old = λ k far under. was.old k (omega arith) under;
          size = was.size;
        }

    -- the change is made and listed
    pub rounding_made : (c : Change) → offered v m p facts i ≡ Some (replacement_of c) → size_after (replacement_of c) (length q.entries) ≤ node_limit → in_form c ≡ true
        → made < length changes → (q' : Prog) → q' ≡ changed_by q (replacement_of c) → Rounding v m p facts list (i + 1) q' (set changes made c) (made + 1) short
    rounding_made c some fits form room q' is =
        let rest : ℕ → Verdicts = λ s. decided v m p facts (length p.entries - (i + 1)) (i + 1) s in
        let size_is : length q'.entries ≡ size_after (replacement_of c) (length q.entries) = ap (λ x. length x.entries) is ∙ changed_length q (replacement_of c) in
        let roomy : leb (size_after (replacement_of c) (length q.entries)) node_limit ≡ true = le-leb _ _ fits in
        let after : decided v m p facts (length p.entries - i) i (length q.entries) ≡ with_made (replacement_of c) (rest (length q'.entries)) =
        step (length q.entries) ∙ ap (λ o. judged o (length q.entries) rest) some
        ∙ ap (λ b. cond b (with_made (replacement_of c) (rest (size_after (replacement_of c) (length q.entries)))) (with_short (rest (length q.entries)))) roomy
        ∙ ap (λ s. with_made (replacement_of c) (rest s)) (sym size_is) in
        let put = take_more_set changes made c room in
        let longer : listed (made + 1) (set changes made c) ≡ listed made changes ++ replacement_of c ∷ [] =
        ap (map replacement_of) put ∙ map-append replacement_of (take made changes) (c ∷ []) in
        let place = (offered_from_pile v m p facts i (replacement_of c) some).0 in
        record {
          few = let f = was.few in omega arith;
          program = is ∙ ap (λ x. changed_by x (replacement_of c)) was.program ∙ sym (all_but_last p (listed made changes) (replacement_of c)) ∙ ap (changed_by_all p) (sym longer);
          made_all = ap (λ l. l ++ (rest (length q'.entries)).made) longer ∙ append_assoc (listed made changes) (replacement_of c ∷ []) (rest (length q'.entries)).made
              ∙ ap (λ r. listed made changes ++ r.made) (sym after) ∙ was.made_all;
          short_all = ap (λ r. short + r.short) (sym after) ∙ was.short_all;
          forms = subst (Every (λ x. in_form x ≡ true)) (sym put) (every_push (λ x. in_form x ≡ true) (take made changes) c was.forms form);
          rest = drop-set-lt (made + 1) changes made c (omega arith) ∙ sym (drop-drop 1 made changes) ∙ ap (drop 1) was.rest ∙ drop-drop 1 made list;
          long = length-set changes made c ∙ was.long;
          old = λ k far under.
              ap (λ x. entry_of x k) is ∙ changed_elsewhere q (replacement_of c) k (let s = was.size in omega arith) (λ e. omega (arith, place)) ∙ was.old k (omega arith) under;
          size = let s = was.size in omega (arith, ap (λ x. length x.entries) is, changed_longer q (replacement_of c));
        }

  module _ (i : ℕ) (q : Prog) (changes : List Change) (made short : ℕ) (was : Rounding v m p facts list i q changes made short) (far : length p.entries ≤ i) (near : i ≤ length p.entries) (room : length p.entries ≤ length list) where
    none_left : decided v m p facts (length p.entries - i) i (length q.entries) ≡ no_verdicts
    unfolding decided
    none_left = let zero_left : length p.entries - i ≡ 0 = omega arith in rw zero_left

    made_is : listed made changes ≡ (verdicts_by v m p facts).made
    made_is = sym (append-nil (listed made changes)) ∙ ap (λ r. listed made changes ++ r.made) (sym none_left) ∙ was.made_all

    made_counts : made ≡ length (verdicts_by v m p facts).made
    made_counts =
        sym (length-map (take made changes) replacement_of ∙ length-take-le made changes (let f = was.few in let l = was.long in omega arith)) ∙ ap length made_is

    pub rounding_ends : Makes (verdicts_by v m p facts) p list made short q changes
    rounding_ends = record {
      made_told = made_counts;
      short_told = omega (arith, was.short_all, ap (λ r. r.short) none_left);
      program = was.program ∙ ap (changed_by_all p) made_is;
      lists = record {
        entries = ap (λ n. listed n changes) (sym made_counts) ∙ made_is;
        forms = subst (λ n. Every (λ c. in_form c ≡ true) (take n changes)) made_counts was.forms;
        rest = subst (λ n. drop n changes ≡ drop n list) made_counts was.rest;
      };
    }
