-- The search past skips finds the first node that is no skip, however far it is.
use Rattle.std.proofs.Common.{◌≡◌, ℕ, zero, suc, ◌<◌, ◌≤◌, Bool, true, false, List, length, get_or, set, replicate, Some, None, Option, unwrap_or, sym, refl, ap, ◌∙◌, subst, arith}
use Rattle.std.proofs.lemmas.List.{get_or-replicate, get_or-set_other}
use Rattle.std.proofs.lemmas.Bool.{both_ways}
use Rattle.machine.specs.declared.node.Node.{Node}
use Rattle.machine.specs.declared.node.Node.TheVariants.{Mov, Binary, In, Out, Ld, St, Br, Skip, Halt, Fail}
use Rattle.machine.specs.Exits.{Has}
use Rattle.machine.specs.Programs.{Prog, IsProgram}
use Rattle.machine.specs.Runs.{entry_of}
use Rattle.machine.specs.WellFormed.{exits_of}
use Rattle.machine.proofs.Entries.{sound_parts}
use Rattle.machine.proofs.Exits.{leads_has}
use Rattle.settling.proofs.Potential.{waiters, waiters_rest}
use Rattle.tidying.specs.Skips.{is_skip, following, SkipsTo, solid, landing, Leads, past, SendsPast}
use Rattle.tidying.specs.Skips.Leads.{one, more}

pub skip_is : (node : Node) → is_skip node ≡ true → node ≡ Skip
skip_is (Mov to from) is = cc
skip_is (Binary op to left right) is = cc
skip_is (In to) is = cc
skip_is (Out from) is = cc
skip_is (Ld to cell) is = cc
skip_is (St cell from) is = cc
skip_is (Br on) is = cc
skip_is Skip is = refl
skip_is Halt is = cc
skip_is (Fail fault) is = cc

module _ {p : Prog} where
  pub leads_trans : {n m j : ℕ} → Leads p n m → Leads p m j → Leads p n j
  leads_trans {j = j} (one is on) way = more is (subst (λ m. Leads p m j) (sym on) way)
  leads_trans (more is first) way = more is (leads_trans first way)

module _ (p : Prog) where
  -- the number of skips is told by the place where they begin
  same_count : (k l n j m : ℕ) → SkipsTo p k n j → SkipsTo p l n m → k ≡ l
  same_count zero zero n j m a b = refl
  same_count zero (suc l) n j m a b = absurd (both_ways (is_skip (entry_of p n).node) a.0 b.0)
  same_count (suc k) zero n j m a b = absurd (both_ways (is_skip (entry_of p n).node) b.0 a.0)
  same_count (suc k) (suc l) n j m a b = ap suc (same_count k l (following p n) j m a.1 b.1)

  solid_finds : (k fuel n j : ℕ) → k < fuel → SkipsTo p k n j → solid p fuel n ≡ Some j
  unfolding solid
  solid_finds k zero n j enough way = absurd (omega arith)
  solid_finds zero (suc fuel) n j enough way = rw way.0 (ap Some way.1)
  solid_finds (suc k) (suc fuel) n j enough way = rw way.0 (solid_finds k fuel (following p n) j (omega arith) way.1)

  pub solid_skips : (fuel n j : ℕ) → solid p fuel n ≡ Some j → (k : ℕ) × SkipsTo p k n j
  unfolding solid
  solid_skips zero n j e = let z : ◌≡◌ {A = ℕ} 0 1 = cc in absurd (omega arith)
  solid_skips (suc fuel) n j e = go (is_skip (entry_of p n).node) refl (solid_skips fuel (following p n) j)
    where
      go : (b : Bool) → is_skip (entry_of p n).node ≡ b → (solid p fuel (following p n) ≡ Some j → (k : ℕ) × SkipsTo p k (following p n) j) →
          (k : ℕ) × SkipsTo p k n j
      go true is rest = let on = rest (rw is at e) in (suc on.0, (is, on.1))
      go false is rest = let here = rw is at e in (0, (is, (cc)))

  -- skips that lead elsewhere first are fewer from there on
  leads_fewer : (j k : ℕ) {n m : ℕ} → Leads p n m → SkipsTo p k n j → (l : ℕ) × (l < k) × SkipsTo p l m j
  leads_fewer j zero {n} (one is on) way = absurd (both_ways (is_skip (entry_of p n).node) way.0 is)
  leads_fewer j zero {n} (more is rest) way = absurd (both_ways (is_skip (entry_of p n).node) way.0 is)
  leads_fewer j (suc k) (one is on) way = (k, omega arith, subst (λ m. SkipsTo p k m j) on way.1)
  leads_fewer j (suc k) (more is rest) way = let f = leads_fewer j k rest way.1 in let fewer = f.1 in (f.0, omega arith, f.2)

  -- no search from n finds a node if no skips lead to one
  solid_none : (fuel n : ℕ) → ((k j : ℕ) → SkipsTo p k n j → ⊥) → solid p fuel n ≡ None
  solid_none fuel n never = go (solid p fuel n) refl
    where
      go : (o : Option ℕ) → solid p fuel n ≡ o → solid p fuel n ≡ None
      go None e = e
      go (Some j) e = let s = solid_skips fuel n j e in absurd (never s.0 j s.1)

  pub solid_ring : (n : ℕ) → Leads p n n → landing p n ≡ None
  solid_ring n round =
      solid_none (length p.entries) n (λ k j way.
      let f = leads_fewer j k round way in
      let fewer = f.1 in
      let same = same_count k f.0 n j j way f.2 in
      omega arith)

  pub solid_here : (n : ℕ) → is_skip (entry_of p n).node ≡ false → n < length p.entries → landing p n ≡ Some n
  solid_here n is below = solid_finds 0 (length p.entries) n n (omega arith) (is, refl)

module _ (p : Prog) (ok : IsProgram p) where
  pub following_below : (n : ℕ) → is_skip (entry_of p n).node ≡ true → n < length p.entries → following p n < length p.entries
  following_below n is below =
      let e = entry_of p n in
      leads_has (length p.entries) (exits_of e.node) e.targets 0 (sound_parts _ e (ok.sound n below)).leads
      (subst (λ (node : Node). Has (exits_of node) 0) (sym (skip_is e.node is)) refl)

  pub leads_below : {n j : ℕ} → Leads p n j → n < length p.entries → j < length p.entries
  leads_below {n} (one is on) below = subst (λ j. j < length p.entries) on (following_below n is below)
  leads_below {n} (more is rest) below = leads_below rest (following_below n is below)

  skips_below : (k n j : ℕ) → SkipsTo p k n j → n < length p.entries → j < length p.entries
  skips_below zero n j way below = subst (λ m. m < length p.entries) way.1 below
  skips_below (suc k) n j way below = skips_below k (following p n) j way.1 (following_below n way.0 below)

  -- each node from which at most k skips lead to j waits to be passed
  abbrev Ahead : ℕ → ℕ → List Bool → Type 0
  Ahead k j waiting = (m l : ℕ) → m < length p.entries → l ≤ k → SkipsTo p l m j → get_or waiting m false ≡ true

  -- a way of skips meets no node twice, so each of its nodes waits until it is passed
  enough_wait : (k n j : ℕ) (waiting : List Bool) → SkipsTo p k n j → n < length p.entries → Ahead k j waiting → k < waiters waiting
  enough_wait zero n j waiting way below ahead = let less = waiters_rest waiting n (ahead n 0 below (omega arith) way) in omega arith
  enough_wait (suc k) n j waiting way below ahead =
      let less = waiters_rest waiting n (ahead n (suc k) below (omega arith) way) in
      let rest = enough_wait k (following p n) j (set waiting n false) way.1 (following_below n way.0 below) on in
      omega arith
    where
      apart : (m l : ℕ) → l ≤ k → SkipsTo p l m j → m ≡ n → ⊥
      apart m l few way' same = let count = same_count p (suc k) l n j j way (subst (λ i. SkipsTo p l i j) same way') in omega arith

      on : Ahead k j (set waiting n false)
      on m l inside few way' = get_or-set_other waiting n m false false (apart m l few way') ∙ ahead m l inside (omega arith) way'

  near : (k n j : ℕ) → SkipsTo p k n j → n < length p.entries → k < length p.entries
  near k n j way below =
      let size = length p.entries in
      subst (λ m. k < m) (all_wait size)
      (enough_wait k n j (replicate size true) way below (λ m l inside few way'. get_or-replicate size m true false inside))
    where
      all_wait : (m : ℕ) → waiters (replicate m true) ≡ m
      all_wait zero = refl
      all_wait (suc m) = ap suc (all_wait m)

  -- the search finds whatever skips lead to
  pub solid_first : (k n j : ℕ) → SkipsTo p k n j → n < length p.entries → landing p n ≡ Some j
  solid_first k n j way below = solid_finds p k (length p.entries) n j (near k n j way below) way

  pub solid_step : (n : ℕ) → is_skip (entry_of p n).node ≡ true → n < length p.entries → landing p n ≡ landing p (following p n)
  solid_step n is below = go (landing p (following p n)) refl
    where
      go : (o : Option ℕ) → landing p (following p n) ≡ o → landing p n ≡ landing p (following p n)
      go (Some j) e = let s = solid_skips p (length p.entries) (following p n) j e in solid_first (suc s.0) n j (is, s.1) below ∙ sym e
      go None e =
          solid_none p (length p.entries) n (λ k j way.
          let f = leads_fewer p j k (one is refl) way in
          let found = solid_first f.0 (following p n) j f.2 (following_below n is below) in
          let z : ◌≡◌ {A = ℕ} 0 1 = cc in omega arith) ∙ sym e

  pub solid_leads : {n j : ℕ} → Leads p n j → n < length p.entries → landing p n ≡ landing p j
  solid_leads {n} (one is on) below = solid_step n is below ∙ ap (landing p) on
  solid_leads {n} (more is rest) below = solid_step n is below ∙ solid_leads rest (following_below n is below)

  pub past_below : (n : ℕ) → n < length p.entries → past p n < length p.entries
  past_below n below = go (landing p n) refl
    where
      go : (o : Option ℕ) → landing p n ≡ o → unwrap_or o n < length p.entries
      go None e = below
      go (Some j) e = let s = solid_skips p (length p.entries) n j e in skips_below s.0 n j s.1 below

  pub sends_past : SendsPast p
  sends_past =
      record {
        first = λ n k j below way. ap (λ o. unwrap_or o n) (solid_first k n j way below);
        ring = λ n below never. ap (λ o. unwrap_or o n) (solid_none p (length p.entries) n never);
      }
