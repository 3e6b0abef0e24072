-- What a sound entry is made of.
use Rattle.std.proofs.Common.{◌≡◌, ℕ, true, ◌&&◌, eqb, length}
use Rattle.std.proofs.lemmas.Bool.{and_parts, and_from, eqb-true, eq-eqb}
use Rattle.machine.specs.declared.node.Entry.{Entry}
use Rattle.machine.specs.WellFormed.{Sound, is_node, leads, exits_of}

pub record SoundParts (count : ℕ) (e : Entry) : Type 0 where
  pub node : is_node e.node ≡ true
  pub two : length e.targets ≡ 2
  pub leads : leads count (exits_of e.node) e.targets ≡ true

pub sound_parts : (count : ℕ) (e : Entry) → Sound count e → SoundParts count e
sound_parts count e good =
    let a = and_parts (is_node e.node) (eqb (length e.targets) 2 && leads count (exits_of e.node) e.targets) good in
    let b = and_parts (eqb (length e.targets) 2) (leads count (exits_of e.node) e.targets) a.1 in
    record { node = a.0; two = eqb-true (length e.targets) 2 b.0; leads = b.1 }

pub sound_from : (count : ℕ) (e : Entry) → SoundParts count e → Sound count e
sound_from count e h =
    and_from (is_node e.node) (eqb (length e.targets) 2 && leads count (exits_of e.node) e.targets) h.node
    (and_from (eqb (length e.targets) 2) (leads count (exits_of e.node) e.targets) (eq-eqb (length e.targets) 2 h.two) h.leads)
