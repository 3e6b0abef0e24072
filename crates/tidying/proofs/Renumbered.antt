-- Nodes that are not reached may be dropped, and the others numbered anew.
use Rattle.std.proofs.Common.{◌≡◌, ℕ, zero, suc, ◌+◌, ◌<◌, ◌≤◌, Bool, true, false, cond, List, [], ◌∷◌, ◌++◌, length, get_or, take, sym, refl, ap, ◌∙◌, subst, add-one, arith}
use Rattle.std.proofs.lemmas.Bool.{false≢true}
use Rattle.machine.specs.declared.node.Entry.{Entry}
use Rattle.machine.specs.Equivalent.{Equivalent}
use Rattle.machine.specs.Exits.{Has}
use Rattle.machine.specs.Programs.{Prog, prog, IsProgram}
use Rattle.machine.specs.Runs.{Config, running, ended, entry_of, follow, step}
use Rattle.machine.specs.State.{State}
use Rattle.machine.specs.Step.{Effect, leaves, ends, act}
use Rattle.machine.specs.WellFormed.{exits_of, Sound, blank}
use Rattle.machine.proofs.Entries.{sound_parts}
use Rattle.machine.proofs.Exits.{leaves_has, leads_has}
use Rattle.machine.proofs.Simulation.{Alike, Together, together_equivalent}
use Rattle.tidying.specs.Reached.{Marks}
use Rattle.tidying.specs.Reached.Reached.{at_first, onward}
use Rattle.tidying.specs.Skips.{retargeted}
use Rattle.tidying.specs.Tidy.{marked, rank, renumbered}
use Rattle.tidying.proofs.Marked.{Up}
use Rattle.tidying.proofs.Targets.{retargeted_at, exits_sound, targets_count, targets_entry}

-- ---- the marked elements of a list, and their numbers

module _ {X : Type 0} where
  -- a marked element stands at its number
  pub marked_at : (marks : List Bool) (xs : List X) (n : ℕ) (d : X) → n < length xs → Up marks n → get_or (marked marks xs) (rank marks n) d ≡ get_or xs n d
  marked_at [] xs n d below up = absurd (false≢true up)
  marked_at (b ∷ marks) [] n d below up = absurd (omega arith)
  marked_at (true ∷ marks) (x ∷ xs) zero d below up = refl
  marked_at (true ∷ marks) (x ∷ xs) (suc n) d below up = marked_at marks xs n d (omega arith) up
  marked_at (false ∷ marks) (x ∷ xs) zero d below up = absurd (false≢true up)
  marked_at (false ∷ marks) (x ∷ xs) (suc n) d below up = marked_at marks xs n d (omega arith) up

  pub rank_below : (marks : List Bool) (xs : List X) (n : ℕ) → n < length xs → Up marks n → rank marks n < length (marked marks xs)
  rank_below [] xs n below up = absurd (false≢true up)
  rank_below (b ∷ marks) [] n below up = absurd (omega arith)
  rank_below (true ∷ marks) (x ∷ xs) zero below up = omega arith
  rank_below (true ∷ marks) (x ∷ xs) (suc n) below up = let h = rank_below marks xs n (omega arith) up in omega arith
  rank_below (false ∷ marks) (x ∷ xs) zero below up = absurd (false≢true up)
  rank_below (false ∷ marks) (x ∷ xs) (suc n) below up = rank_below marks xs n (omega arith) up

  pub marked_fewer : (marks : List Bool) (xs : List X) → length (marked marks xs) ≤ length xs
  marked_fewer [] xs = omega arith
  marked_fewer (b ∷ marks) [] = omega arith
  marked_fewer (true ∷ marks) (x ∷ xs) = let h = marked_fewer marks xs in omega arith
  marked_fewer (false ∷ marks) (x ∷ xs) = let h = marked_fewer marks xs in omega arith

  -- every number is that of a marked element
  pub unranked : (marks : List Bool) (xs : List X) (k : ℕ) → k < length (marked marks xs) → (n : ℕ) × (n < length xs) × Up marks n × (rank marks n ≡ k)
  unranked [] xs k below = absurd (omega arith)
  unranked (b ∷ marks) [] k below = absurd (omega arith)
  unranked (true ∷ marks) (x ∷ xs) zero below = (0, omega arith, refl, refl)
  unranked (true ∷ marks) (x ∷ xs) (suc k) below =
      let u = unranked marks xs k (omega arith) in (suc u.0, (let h = u.1 in omega arith), u.2, ap suc u.3)
  unranked (false ∷ marks) (x ∷ xs) k below = let u = unranked marks xs k below in (suc u.0, (let h = u.1 in omega arith), u.2, u.3)

  marked_suc : (marks : List Bool) (xs : List X) (i : ℕ) (d : X) → i < length xs →
      marked (take (suc i) marks) (take (suc i) xs)
      ≡ cond (get_or marks i false) (marked (take i marks) (take i xs) ++ get_or xs i d ∷ []) (marked (take i marks) (take i xs))
  marked_suc [] xs zero d below = refl
  marked_suc [] xs (suc i) d below = refl
  marked_suc (b ∷ marks) [] i d below = absurd (omega arith)
  marked_suc (true ∷ marks) (x ∷ xs) zero d below = refl
  marked_suc (false ∷ marks) (x ∷ xs) zero d below = refl
  marked_suc (true ∷ marks) (x ∷ xs) (suc i) d below = ap (λ ys. x ∷ ys) (marked_suc marks xs i d (omega arith)) ∙ inside (get_or marks i false) _ _
    where
      inside : (b : Bool) (ys zs : List X) → x ∷ cond b ys zs ≡ cond b (x ∷ ys) (x ∷ zs)
      inside true ys zs = refl
      inside false ys zs = refl
  marked_suc (false ∷ marks) (x ∷ xs) (suc i) d below = marked_suc marks xs i d (omega arith)

  -- one place further in the list
  pub marked_more : (marks : List Bool) (xs : List X) (i : ℕ) (d : X) → i < length xs →
      marked (take (i + 1) marks) (take (i + 1) xs)
      ≡ cond (get_or marks i false) (marked (take i marks) (take i xs) ++ get_or xs i d ∷ []) (marked (take i marks) (take i xs))
  marked_more marks xs i d below = ap (λ k. marked (take k marks) (take k xs)) (add-one i) ∙ marked_suc marks xs i d below

  -- as many come before it as its number says
  pub rank_length : (marks : List Bool) (xs : List X) (i : ℕ) → i ≤ length xs → length (marked (take i marks) (take i xs)) ≡ rank marks i
  rank_length [] xs zero below = refl
  rank_length [] xs (suc i) below = refl
  rank_length (b ∷ marks) xs zero below = refl
  rank_length (b ∷ marks) [] (suc i) below = absurd (omega arith)
  rank_length (true ∷ marks) (x ∷ xs) (suc i) below = ap suc (rank_length marks xs i (omega arith))
  rank_length (false ∷ marks) (x ∷ xs) (suc i) below = rank_length marks xs i (omega arith)

rank_suc : (marks : List Bool) (i : ℕ) → rank marks (suc i) ≡ rank marks i + cond (get_or marks i false) 1 0
rank_suc [] i = omega arith
rank_suc (true ∷ []) zero = omega arith
rank_suc (true ∷ (b ∷ marks)) zero = omega arith
rank_suc (false ∷ []) zero = omega arith
rank_suc (false ∷ (b ∷ marks)) zero = omega arith
rank_suc (true ∷ marks) (suc i) = let h = rank_suc marks i in omega arith
rank_suc (false ∷ marks) (suc i) = rank_suc marks i

pub rank_more : (marks : List Bool) (i : ℕ) → rank marks (i + 1) ≡ rank marks i + cond (get_or marks i false) 1 0
rank_more marks i = ap (rank marks) (add-one i) ∙ rank_suc marks i

-- ---- the two programs run together

module _ (p : Prog) (ok : IsProgram p) (marks : List Bool) (right : Marks p marks) where
  -- the marked nodes alone, with their old targets
  abbrev kept : Prog
  kept = prog (marked marks p.entries) p.first

  -- a node that is kept
  abbrev Held : ℕ → Type 0
  Held n = (n < length p.entries) × Up marks n

  held_first : Held p.first
  held_first = (ok.starts, (right.exact p.first ok.starts).1 at_first)

  held_on : (n exit : ℕ) → Held n → Has (exits_of (entry_of p n).node) exit → Held (get_or (entry_of p n).targets exit 0)
  held_on n exit held has =
      let leads = (sound_parts (length p.entries) (entry_of p n) (ok.sound n held.0)).leads in
      let below = leads_has (length p.entries) (exits_of (entry_of p n).node) (entry_of p n).targets exit leads has in
      (below, (right.exact (get_or (entry_of p n).targets exit 0) below).1 (onward n exit ((right.exact n held.0).0 held.1) has))

  entry_renumbered : (n : ℕ) → Held n → entry_of (renumbered marks p) (rank marks n) ≡ retargeted (rank marks) (entry_of p n)
  entry_renumbered n held =
      targets_entry (rank marks) kept (rank marks n) (rank_below marks p.entries n held.0 held.1)
      ∙ ap (retargeted (rank marks)) (marked_at marks p.entries n blank held.0 held.1)

  renamed : Config → Config
  renamed (running n s) = running (rank marks n) s
  renamed (ended k s) = ended k s

  HeldAt : Config → Type 0
  HeldAt (running n s) = Held n
  HeldAt (ended k s) = Unit {0}

  -- the same but for the number of the node, which is kept
  abbrev Named : Config → Config → Type 0
  Named c d = (renamed c ≡ d) × HeldAt c

  named_after : (n : ℕ) (s : State) → Held n → (f : Effect) → act (entry_of p n).node s ≡ f →
      Named (follow (entry_of p n) f) (follow (retargeted (rank marks) (entry_of p n)) f)
  unfolding HeldAt renamed
  named_after n s held (leaves exit t) acts =
      let has = leaves_has (entry_of p n).node s t exit acts in (
        ap (λ (k : ℕ). running k t) (sym (retargeted_at (rank marks) (entry_of p n) exit has)),
        held_on n exit held has,
      )
  named_after n s held (ends k t) acts = (refl, tt)

  named_step : (c : Config) → HeldAt c → Named (step p c) (step (renumbered marks p) (renamed c))
  unfolding HeldAt renamed
  named_step (running n s) held =
      subst (λ (e : Entry). Named (step p (running n s)) (follow e (act e.node s))) (sym (entry_renumbered n held))
      (named_after n s held (act (entry_of p n).node s) refl)
  named_step (ended k s) held = (refl, tt)

  renamed_alike : (c : Config) → Alike c (renamed c)
  unfolding renamed
  renamed_alike (running n s) = refl
  renamed_alike (ended k s) = (refl, refl, refl, refl)

  together : (cells inputs : List ℕ) → Together p (renumbered marks p) cells inputs Named
  unfolding HeldAt renamed
  together cells inputs =
      record {
        begins = (refl, held_first);
        alike = λ c d named. subst (λ (x : Config). Alike c x) named.0 (renamed_alike c);
        meets = λ c d named.
            (0, 0, subst (λ (x : Config). Named (step p c) (step (renumbered marks p) x)) named.0 (named_step c named.1));
      }

  pub renumbered_equivalent : Equivalent p (renumbered marks p)
  renumbered_equivalent = together_equivalent p (renumbered marks p) (λ cells inputs. Named) (λ cells inputs given. together cells inputs)

  -- ---- the new program is one

  renumbered_length : length (renumbered marks p).entries ≡ length (marked marks p.entries)
  renumbered_length = targets_count (rank marks) kept

  rank_inside : (n : ℕ) → Held n → rank marks n < length (renumbered marks p).entries
  rank_inside n held = let h = rank_below marks p.entries n held.0 held.1 in omega (arith, renumbered_length)

  held_sound : (n : ℕ) → Held n → Sound (length (renumbered marks p).entries) (entry_of (renumbered marks p) (rank marks n))
  held_sound n held =
      subst (Sound (length (renumbered marks p).entries)) (sym (entry_renumbered n held))
      (exits_sound (rank marks) (length (renumbered marks p).entries) (entry_of p n)
      (sound_parts (length p.entries) (entry_of p n) (ok.sound n held.0)).node
      (λ exit has. rank_inside (get_or (entry_of p n).targets exit 0) (held_on n exit held has)))

  pub renumbered_program : IsProgram (renumbered marks p)
  renumbered_program =
      record {
        counted = omega (arith, renumbered_length, marked_fewer marks p.entries, ok.counted);
        starts = rank_inside p.first held_first;
        sound = λ k below.
            let u = unranked marks p.entries k (omega (arith, renumbered_length)) in
            subst (λ (j : ℕ). Sound (length (renumbered marks p).entries) (entry_of (renumbered marks p) j)) u.3 (held_sound u.0 (u.1, u.2));
      }
