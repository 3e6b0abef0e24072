-- The search for the reached nodes marks just those.
use Rattle.std.proofs.Common.{◌≡◌, ℕ, zero, suc, ◌+◌, ◌<◌, ◌≤◌, Bool, true, false, cond, List, [], ◌∷◌, length, get_or, set, replicate, Some, None, Option, sym, refl, ap, ◌∙◌, subst, inl, inr, arith}
use Rattle.std.specs.Option.{option_map}
use Rattle.std.proofs.lemmas.List.{length-set, length-replicate, get_or-set_same, get_or-set_other}
use Rattle.std.proofs.lemmas.Bool.{both_ways, cases_eq, true≢false}
use Rattle.machine.specs.declared.node.Exits.{Exits}
use Rattle.machine.specs.declared.node.Exits.TheVariants as exits
use Rattle.machine.specs.Exits.{Has}
use Rattle.machine.specs.Programs.{Prog, IsProgram}
use Rattle.machine.specs.Runs.{entry_of}
use Rattle.machine.specs.WellFormed.{exits_of}
use Rattle.machine.proofs.Entries.{sound_parts}
use Rattle.machine.proofs.Exits.{leads_has}
use Rattle.settling.specs.NodeSets.{lowest}
use Rattle.settling.specs.Worklist.{Worklist, worklist, run}
use Rattle.settling.proofs.Lowest.{lowest_waits, lowest_rests}
use Rattle.settling.proofs.Potential.{waiters, waiters_raise, waiters_rest, none_waits}
use Rattle.settling.proofs.Runs.{run_out}
use Rattle.tidying.specs.Reached.{Reached, Marks, spread_to, spread_over, followed, spread_next, spread_first, reached_marks}
use Rattle.tidying.specs.Reached.Reached.{at_first, onward}

-- flag n is up
abbrev pub Up : List Bool → ℕ → Type 0
Up flags n = get_or flags n false ≡ true

-- how many are not marked
abbrev pub unmarked : List Bool → ℕ
unmarked [] = 0
unmarked (true ∷ marks) = unmarked marks
unmarked (false ∷ marks) = suc (unmarked marks)

unmarked_raise : (marks : List Bool) (n : ℕ) → n < length marks → get_or marks n false ≡ false → suc (unmarked (set marks n true)) ≡ unmarked marks
unmarked_raise [] n below down = absurd (omega arith)
unmarked_raise (true ∷ marks) zero below down = absurd (true≢false down)
unmarked_raise (false ∷ marks) zero below down = refl
unmarked_raise (true ∷ marks) (suc n) below down = unmarked_raise marks n (omega arith) down
unmarked_raise (false ∷ marks) (suc n) below down = ap suc (unmarked_raise marks n (omega arith) down)

none_marked : (n : ℕ) → unmarked (replicate n false) ≡ n
none_marked zero = refl
none_marked (suc n) = ap suc (none_marked n)

all_down : (k n : ℕ) → get_or (replicate k false) n false ≡ false
all_down zero n = refl
all_down (suc k) zero = refl
all_down (suc k) (suc n) = all_down k n

-- what is left to do: each node waits at most once
abbrev pub left : Worklist Bool → ℕ
left w = unmarked w.items + waiters w.waiting

-- every target of node n is marked
abbrev pub Closed : Prog → List Bool → ℕ → Type 0
Closed p marks n = (exit : ℕ) → Has (exits_of (entry_of p n).node) exit → Up marks (get_or (entry_of p n).targets exit 0)

-- what holds while the marks spread
pub record Spreading (p : Prog) (w : Worklist Bool) : Type 0 where
  pub long : length w.items ≡ length p.entries
  pub flags : length w.waiting ≡ length p.entries
  pub begins : Up w.items p.first
  pub reached : (n : ℕ) → Up w.items n → Reached p n
  pub waits : (n : ℕ) → Up w.waiting n → Up w.items n
  pub closed : (n : ℕ) → Up w.items n → get_or w.waiting n false ≡ false → Closed p w.items n

-- what spreading to reached nodes makes of w
record Onward (p : Prog) (w u : Worklist Bool) : Type 0 where
  pub long : length u.items ≡ length w.items
  pub flags : length u.waiting ≡ length w.waiting
  pub grows : (n : ℕ) → Up w.items n → Up u.items n
  pub reached : ((n : ℕ) → Up w.items n → Reached p n) → (n : ℕ) → Up u.items n → Reached p n
  pub waits : ((n : ℕ) → Up w.waiting n → Up w.items n) → (n : ℕ) → Up u.waiting n → Up u.items n
  pub still : (n : ℕ) → Up u.items n → get_or u.waiting n false ≡ false → Up w.items n × (get_or w.waiting n false ≡ false)
  pub less : left u ≤ left w

module _ (p : Prog) where
  onward_none : (w : Worklist Bool) → Onward p w w
  onward_none w =
      record {
        long = refl;
        flags = refl;
        grows = λ n up. up;
        reached = λ all. all;
        waits = λ all. all;
        still = λ n up rests. (up, rests);
        less = omega arith;
      }

  onward_both : (w u v : Worklist Bool) → Onward p w u → Onward p u v → Onward p w v
  onward_both w u v a b =
      record {
        long = b.long ∙ a.long;
        flags = b.flags ∙ a.flags;
        grows = λ n up. b.grows n (a.grows n up);
        reached = λ all. b.reached (a.reached all);
        waits = λ all. b.waits (a.waits all);
        still = λ n up rests. let s = b.still n up rests in a.still n s.0 s.1;
        less = let l = a.less in let m = b.less in omega arith;
      }

  onward_new : (n : ℕ) (marks waiting : List Bool) → Reached p n → n < length marks → n < length waiting → get_or marks n false ≡ false
      → Onward p (worklist marks waiting) (worklist (set marks n true) (set waiting n true))
  onward_new n marks waiting came below flagged down =
      record {
        long = length-set marks n true;
        flags = length-set waiting n true;
        grows = λ k up. elim (cases_eq k n) [
          | inl e ↦ rw e (get_or-set_same marks n true false below)
          | inr ne ↦ get_or-set_other marks n k true false ne ∙ up
        ];
        reached = λ all k up. elim (cases_eq k n) [
          | inl e ↦ subst (Reached p) (sym e) came
          | inr ne ↦ all k (sym (get_or-set_other marks n k true false ne) ∙ up)
        ];
        waits = λ all k up. elim (cases_eq k n) [
          | inl e ↦ rw e (get_or-set_same marks n true false below)
          | inr ne ↦ get_or-set_other marks n k true false ne ∙ all k (sym (get_or-set_other waiting n k true false ne) ∙ up)
        ];
        still = λ k up rests. elim (cases_eq k n) [
          | inl e ↦ absurd (both_ways (get_or (set waiting n true) k false) rests (rw e (get_or-set_same waiting n true false flagged)))
          | inr ne ↦ (sym (get_or-set_other marks n k true false ne) ∙ up, sym (get_or-set_other waiting n k true false ne) ∙ rests)
        ];
        less = let a = unmarked_raise marks n below down in let b = waiters_raise waiting n in omega arith;
      }

  -- both lists have a place for each node
  record Sized (w : Worklist Bool) : Type 0 where
    pub long : length w.items ≡ length p.entries
    pub flags : length w.waiting ≡ length p.entries

  sized_on : {w u : Worklist Bool} → Sized w → Onward p w u → Sized u
  sized_on was on = record { long = on.long ∙ was.long; flags = on.flags ∙ was.flags }

  -- a node of the program that is reached
  abbrev Good : ℕ → Type 0
  Good n = Reached p n × (n < length p.entries)

  to_onward : (n : ℕ) (w : Worklist Bool) → Good n → Sized w → Onward p w (spread_to n w)
  to_onward n w good sized = go (get_or w.items n false) refl
    where
      go : (b : Bool) → get_or w.items n false ≡ b → Onward p w (cond b w (worklist (set w.items n true) (set w.waiting n true)))
      go true e = onward_none w
      go false e = onward_new n w.items w.waiting good.0 (omega (arith, sized.long, good.1)) (omega (arith, sized.flags, good.1)) e

  to_marks : (n : ℕ) (w : Worklist Bool) → n < length w.items → Up (spread_to n w).items n
  to_marks n w below = go (get_or w.items n false) refl
    where
      go : (b : Bool) → get_or w.items n false ≡ b → Up (cond b w (worklist (set w.items n true) (set w.waiting n true))).items n
      go true e = e
      go false e = get_or-set_same w.items n true false below

  module _ (targets : List ℕ) (w : Worklist Bool) (sized : Sized w) where
    over_onward : (x : Exits) → ((exit : ℕ) → Has x exit → Good (get_or targets exit 0)) → Onward p w (spread_over x targets w)
    over_onward exits.None good = onward_none w
    over_onward exits.One good = to_onward (get_or targets 0 0) w (good 0 refl) sized
    over_onward exits.Two good =
        let u = spread_to (get_or targets 0 0) w in
        let one = to_onward (get_or targets 0 0) w (good 0 (inl refl)) sized in
        onward_both w u (spread_to (get_or targets 1 0) u) one (to_onward (get_or targets 1 0) u (good 1 (inr refl)) (sized_on sized one))

    over_marks : (x : Exits) → ((exit : ℕ) → Has x exit → Good (get_or targets exit 0)) → (exit : ℕ) → Has x exit
        → Up (spread_over x targets w).items (get_or targets exit 0)
    over_marks exits.None good exit has = absurd has
    over_marks exits.One good exit has = rw has (to_marks (get_or targets 0 0) w (omega (arith, sized.long, (good 0 refl).1)))
    over_marks exits.Two good exit (inl has) =
        let u = spread_to (get_or targets 0 0) w in
        let one = to_onward (get_or targets 0 0) w (good 0 (inl refl)) sized in
        let two = to_onward (get_or targets 1 0) u (good 1 (inr refl)) (sized_on sized one) in
        rw has (two.grows (get_or targets 0 0) (to_marks (get_or targets 0 0) w (omega (arith, sized.long, (good 0 (inl refl)).1))))
    over_marks exits.Two good exit (inr has) =
        let one = to_onward (get_or targets 0 0) w (good 0 (inl refl)) sized in
        let long = (sized_on sized one).long in
        rw has (to_marks (get_or targets 1 0) (spread_to (get_or targets 0 0) w) (omega (arith, long, (good 1 (inr refl)).1)))

  pub follow_step : (n : ℕ) (w : Worklist Bool) → Some n ≡ lowest w.waiting → spread_next p w ≡ Some (followed p n w)
  unfolding spread_next
  follow_step n w low = ap (option_map (λ k. followed p k w)) (sym low)

  pub none_left : (w : Worklist Bool) → None ≡ lowest w.waiting → spread_next p w ≡ None
  unfolding spread_next
  none_left w none = ap (option_map (λ k. followed p k w)) (sym none)

  next_none : (w : Worklist Bool) → spread_next p w ≡ None → lowest w.waiting ≡ None
  unfolding spread_next
  next_none w steps = go (lowest w.waiting) steps
    where
      go : (o : Option ℕ) → option_map (λ k. followed p k w) o ≡ None → o ≡ None
      go None f = refl
      go (Some n) f = let z : ◌≡◌ {A = ℕ} 0 1 = cc in absurd (omega arith)

  -- where none waits, each reached node is marked
  module _ (w : Worklist Bool) (was : Spreading p w) (rests : (n : ℕ) → get_or w.waiting n false ≡ false) where
    all_marked : (n : ℕ) → Reached p n → Up w.items n
    all_marked _ at_first = was.begins
    all_marked _ (onward n exit came has) = was.closed n (all_marked n came) (rests n) exit has

    pub spread_marks : Marks p w.items
    spread_marks = record { each = was.long; exact = λ n below. (was.reached n, all_marked n) }

module _ (p : Prog) (ok : IsProgram p) where
  pub spreading_starts : Spreading p (spread_first (length p.entries) p.first)
  unfolding spread_first
  spreading_starts =
      let first = p.first in
      let down = replicate (length p.entries) false in
      let long = length-replicate (length p.entries) false in
      let up : Up (set down first true) first = get_or-set_same down first true false (omega (arith, long, ok.starts)) in
      let only : (n : ℕ) → Up (set down first true) n → n ≡ first = λ n is. elim (cases_eq n first) [
        | inl e ↦ e
        | inr ne ↦ absurd (both_ways (get_or (set down first true) n false) (get_or-set_other down first n true false ne ∙ all_down (length p.entries) n) is)
      ] in
      record {
        long = length-set down first true ∙ long;
        flags = length-set down first true ∙ long;
        begins = up;
        reached = λ n is. subst (Reached p) (sym (only n is)) at_first;
        waits = λ n is. is;
        closed = λ n is rests. absurd (both_ways (get_or (set down first true) n false) rests is);
      }

  pub first_left : left (spread_first (length p.entries) p.first) ≤ length p.entries
  unfolding spread_first
  first_left =
      let nodes = length p.entries in
      let down = replicate nodes false in
      let a = unmarked_raise down p.first (omega (arith, length-replicate nodes false, ok.starts)) (all_down nodes p.first) in
      let b = none_marked nodes in
      let c = waiters_raise down p.first in
      let d = none_waits nodes in
      omega arith

  good_on : (n : ℕ) → Good p n → (exit : ℕ) → Has (exits_of (entry_of p n).node) exit → Good p (get_or (entry_of p n).targets exit 0)
  good_on n good exit has =
      let leads = (sound_parts (length p.entries) (entry_of p n) (ok.sound n good.1)).leads in
      (onward n exit good.0 has, leads_has (length p.entries) (exits_of (entry_of p n).node) (entry_of p n).targets exit leads has)

  -- the exits of the lowest node that waits are followed
  pub followed_keeps : (n : ℕ) (w : Worklist Bool) → Spreading p w → Some n ≡ lowest w.waiting → Spreading p (followed p n w) × (left (followed p n w) < left w)
  unfolding followed
  followed_keeps n w was low =
      let up = lowest_waits w.waiting n (sym low) in
      let there : n < length p.entries = let e = was.flags in let b = up.0 in omega arith in
      let x = exits_of (entry_of p n).node in
      let targets = (entry_of p n).targets in
      let good = good_on n (was.reached n (was.waits n up.1), there) in
      let rested = worklist w.items (set w.waiting n false) in
      let sized : Sized p rested = record { long = was.long; flags = length-set w.waiting n false ∙ was.flags } in
      let on = over_onward p targets rested sized x good in
      let others : (k : ℕ) → Up (set w.waiting n false) k → Up w.waiting k = λ k waits. elim (cases_eq k n) [
        | inl e ↦ rw e up.1
        | inr ne ↦ sym (get_or-set_other w.waiting n k false false ne) ∙ waits
      ] in (
        record {
          long = on.long ∙ was.long;
          flags = on.flags ∙ sized.flags;
          begins = on.grows p.first was.begins;
          reached = on.reached was.reached;
          waits = on.waits (λ k waits. was.waits k (others k waits));
          closed = λ k is rests. elim (cases_eq k n) [
            | inl e ↦ subst (Closed p (spread_over x targets rested).items) (sym e) (over_marks p targets rested sized x good)
            | inr ne ↦ λ exit has.
                let s = on.still k is rests in
                on.grows (get_or (entry_of p k).targets exit 0) (was.closed k s.0 (sym (get_or-set_other w.waiting n k false false ne) ∙ s.1) exit has)
          ];
        },
        (let a = on.less in let b = waiters_rest w.waiting n up.1 in omega arith),
      )

  next_keeps : (w u : Worklist Bool) → Spreading p w → spread_next p w ≡ Some u → Spreading p u × (left u < left w)
  unfolding spread_next
  next_keeps w u was steps = go (lowest w.waiting) refl steps
    where
      go : (o : Option ℕ) → lowest w.waiting ≡ o → option_map (λ k. followed p k w) o ≡ Some u → Spreading p u × (left u < left w)
      go None e f = let z : ◌≡◌ {A = ℕ} 0 1 = cc in absurd (omega arith)
      go (Some n) e f =
          let same : followed p n w ≡ u = cc in
          subst (λ x. Spreading p x × (left x < left w)) same (followed_keeps n w was (sym e))

pub marks_right : (p : Prog) → IsProgram p → Marks p (reached_marks p)
marks_right p ok =
    let nodes = length p.entries in
    let first = spread_first nodes p.first in
    let out = run_out (spread_next p) left (Spreading p) (next_keeps p ok) nodes first (spreading_starts p ok) (first_left p ok) in
    let last = (run (spread_next p) nodes first).last in
    spread_marks p last out.1 (lowest_rests last.waiting (next_none p last out.0))
