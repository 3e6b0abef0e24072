-- Sending the targets of a program elsewhere.
use Rattle.std.proofs.Common.{◌≡◌, ℕ, ◌<◌, true, List, length, get_or, sym, refl, subst, inl, inr, arith}
use Rattle.std.proofs.lemmas.List.{get_or-map, length-map}
use Rattle.std.proofs.lemmas.Bool.{and_from, lt-ltb}
use Rattle.machine.specs.declared.node.Entry.{Entry}
use Rattle.machine.specs.declared.node.Exits.{Exits}
use Rattle.machine.specs.declared.node.Exits.TheVariants as exits
use Rattle.machine.specs.Exits.{Has}
use Rattle.machine.specs.Programs.{Prog, IsProgram}
use Rattle.machine.specs.Runs.{entry_of}
use Rattle.machine.specs.WellFormed.{AllSound, Sound, blank, exits_of, is_node, leads}
use Rattle.machine.proofs.Entries.{sound_from, sound_parts}
use Rattle.machine.proofs.Exits.{leads_has}
use Rattle.tidying.specs.Skips.{sent, retargeted, with_targets}

module _ (f : ℕ → ℕ) where
  sent_at : (x : Exits) (targets : List ℕ) (exit : ℕ) → Has x exit → get_or (sent f x targets) exit 0 ≡ f (get_or targets exit 0)
  sent_at exits.None targets exit has = absurd has
  sent_at exits.One targets exit has = rw has
  sent_at exits.Two targets exit (inl has) = rw has
  sent_at exits.Two targets exit (inr has) = rw has

  sent_two : (x : Exits) (targets : List ℕ) → length (sent f x targets) ≡ 2
  sent_two exits.None targets = refl
  sent_two exits.One targets = refl
  sent_two exits.Two targets = refl

  sent_leads : (count : ℕ) (x : Exits) (targets : List ℕ) → ((exit : ℕ) → Has x exit → f (get_or targets exit 0) < count) →
      leads count x (sent f x targets) ≡ true
  sent_leads count exits.None targets below = refl
  sent_leads count exits.One targets below = and_from _ _ (lt-ltb _ count (below 0 refl)) refl
  sent_leads count exits.Two targets below = and_from _ _ (lt-ltb _ count (below 0 (inl refl))) (lt-ltb _ count (below 1 (inr refl)))

  pub retargeted_at : (e : Entry) (exit : ℕ) → Has (exits_of e.node) exit → get_or (retargeted f e).targets exit 0 ≡ f (get_or e.targets exit 0)
  retargeted_at e = sent_at (exits_of e.node) e.targets

  -- only the targets that there are matter
  pub exits_sound : (count : ℕ) (e : Entry) → is_node e.node ≡ true →
      ((exit : ℕ) → Has (exits_of e.node) exit → f (get_or e.targets exit 0) < count) → Sound count (retargeted f e)
  exits_sound count e node below =
      sound_from count (retargeted f e)
      (record {
        node = node;
        two = sent_two (exits_of e.node) e.targets;
        leads = sent_leads count (exits_of e.node) e.targets below;
      })

  pub retargeted_sound : (count count' : ℕ) → ((n : ℕ) → n < count → f n < count') → (e : Entry) → Sound count e → Sound count' (retargeted f e)
  retargeted_sound count count' below e good =
      let parts = sound_parts count e good in
      exits_sound count' e parts.node (λ exit has. below _ (leads_has count (exits_of e.node) e.targets exit parts.leads has))

  module _ (p : Prog) where
    pub targets_count : length (with_targets f p).entries ≡ length p.entries
    targets_count = length-map p.entries (retargeted f)

    pub targets_entry : (n : ℕ) → n < length p.entries → entry_of (with_targets f p) n ≡ retargeted f (entry_of p n)
    targets_entry n below = get_or-map (retargeted f) p.entries n blank blank below

    pub targets_program : ((n : ℕ) → n < length p.entries → f n < length p.entries) → IsProgram p → IsProgram (with_targets f p)
    targets_program below ok =
        let same = targets_count in
        record {
          counted = omega (arith, ok.counted);
          starts = subst (λ m. f p.first < m) (sym same) (below p.first ok.starts);
          sound = subst (λ m. AllSound m (with_targets f p).entries) (sym same) (λ n inside.
              subst (λ (e : Entry). Sound (length p.entries) e) (sym (targets_entry n inside))
              (retargeted_sound (length p.entries) (length p.entries) below (entry_of p n) (ok.sound n inside)));
        }
