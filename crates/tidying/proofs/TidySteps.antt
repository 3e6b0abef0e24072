-- What the code's steps come to in tidying.
use Rattle.std.proofs.Common.{◌≡◌, ℕ, ◌<◌, Bool, true, false, List, [], ◌∷◌, map, length, get_or, refl, ap, inl, inr}
use Rattle.std.specs.List.{All}
use Rattle.std.proofs.lemmas.List.Elements.{All-from_get_or, All-nil, All-cons, All-head, All-tail}
use Rattle.machine.specs.declared.node.Entry.{Entry}
use Rattle.machine.specs.declared.node.Exits.{Exits}
use Rattle.machine.specs.declared.node.Exits.TheVariants as exits
use Rattle.machine.specs.Exits.{Has}
use Rattle.machine.specs.Programs.{Prog, IsProgram}
use Rattle.machine.specs.Runs.{entry_of}
use Rattle.machine.specs.WellFormed.{exits_of, blank}
use Rattle.machine.proofs.Entries.{sound_parts}
use Rattle.machine.proofs.Exits.{leads_has}
use Rattle.tidying.specs.Skips.{sent, retargeted}
use Rattle.tidying.specs.Targets.{TargetsBelow}
use Rattle.tidying.specs.Tidy.{marked}

pub program_targets : (p : Prog) → IsProgram p → All (TargetsBelow (length p.entries)) p.entries
program_targets p ok =
    All-from_get_or (TargetsBelow (length p.entries)) p.entries blank
    (λ n below exit has. leads_has (length p.entries) (exits_of (entry_of p n).node) (entry_of p n).targets exit (sound_parts (length p.entries) (entry_of p n) (ok.sound n below)).leads has)

pub targets_of : (p : Prog) → IsProgram p → (es : List Entry) (n : ℕ) → es ≡ p.entries → n ≡ length p.entries → All (TargetsBelow n) es
targets_of p ok es n is each = rw (is, each) (program_targets p ok)

pub marked_all : {X : Type 0} (P : X → Type 0) (marks : List Bool) (xs : List X) → All P xs → All P (marked marks xs)
marked_all P [] xs all = All-nil P
marked_all P (b ∷ marks) [] all = All-nil P
marked_all P (true ∷ marks) (x ∷ xs) all = All-cons P x (marked marks xs) (All-head P x xs all) (marked_all P marks xs (All-tail P x xs all))
marked_all P (false ∷ marks) (x ∷ xs) all = marked_all P marks xs (All-tail P x xs all)

module _ (f g : ℕ → ℕ) (n : ℕ) (agree : (k : ℕ) → k < n → f k ≡ g k) where
  sent_same : (x : Exits) (targets : List ℕ) → ((exit : ℕ) → Has x exit → get_or targets exit 0 < n) → sent f x targets ≡ sent g x targets
  sent_same exits.None targets below = refl
  sent_same exits.One targets below = ap (λ t. t ∷ 0 ∷ []) (agree (get_or targets 0 0) (below 0 refl))
  sent_same exits.Two targets below =
      let a = agree (get_or targets 0 0) (below 0 (inl refl)) in
      let b = agree (get_or targets 1 0) (below 1 (inr refl)) in
      cc

  -- functions that agree on the targets send an entry alike
  pub retargeted_same : (es : List Entry) → All (TargetsBelow n) es → map (retargeted f) es ≡ map (retargeted g) es
  retargeted_same [] all = refl
  retargeted_same (e ∷ es) all =
      let here : retargeted f e ≡ retargeted g e = ap (λ ts. record { node = e.node; targets = ts }) (sent_same (exits_of e.node) e.targets (All-head (TargetsBelow n) e es all)) in
      let rest = retargeted_same es (All-tail (TargetsBelow n) e es all) in
      cc
