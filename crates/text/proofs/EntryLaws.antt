-- The line of a node, as a whole.
use Rattle.std.proofs.Common.{◌≡◌, ℕ, ◌+◌, List, [], ◌∷◌, ◌++◌, get_or, Some, None, Err, Option, Result, sym, ap, ◌∙◌, append-nil}
use Rattle.text.specs.declared.refusal.LineRefusal.{LineRefusal}
use Rattle.machine.specs.declared.node.Entry.{Entry}
use Rattle.machine.specs.declared.node.Node.{Node}
use Rattle.text.specs.declared.kind.Kind.{Kind}
use Rattle.text.specs.declared.read.parts.Parts.{Parts}
use Rattle.text.specs.Cuts.{left}
use Rattle.text.specs.Entries.{EntryRead}
use Rattle.text.specs.Print.{operand_words, exit_words}
use Rattle.text.specs.RowReads.{RowOk, RowErr, line_told}
use Rattle.text.specs.Rows.{Due, label, name, word_fault, row_fault, kind_named, dues_past, operand_dues, exit_dues, node_fault}
use Rattle.text.specs.Kinds.{kind_name, kind_exits, kind_of}
use Rattle.machine.specs.WellFormed.{exits_of}
use Rattle.text.proofs.KindLaws.{kind_exits_lem}
use Rattle.text.proofs.RowLaws.{ok_ok, ok_err}

module _ (next : ℕ) (s : Parts) (ws : List (List ℕ)) (start : s.number ≡ 0) (cut : left s ≡ ws) where
  abbrev from : List Due → Option (ℕ × ℕ)
  from ds = row_fault word_fault ds (s.number + 1) (left s)

  from_start : (ds : List Due) → row_fault word_fault ds 1 ws ≡ from ds
  from_start ds = ap (row_fault word_fault ds 1) (sym cut) ∙ ap (λ n. row_fault word_fault ds (n + 1) (left s)) (sym start)

  -- the exit of a `?`, once the fault is known
  pub entry_exit : (r : Result Entry LineRefusal) (y e : LineRefusal) → r ≡ Err y → y ≡ e → node_fault next ws ≡ Some (line_told e) → EntryRead next ws r
  entry_exit r y e p q h = rw (p, q) h

  module _ (k : Kind) (known : kind_named (kind_name k) ≡ Some k) (lw : List ℕ) (t u : Parts) (a : RowOk (label next ∷ []) (lw ∷ []) s t) (b : RowOk (name ∷ []) (kind_name k ∷ []) t u) where
    abbrev past : List Due
    past = operand_dues k ++ exit_dues (kind_exits k)

    head : RowOk (label next ∷ name ∷ []) (lw ∷ kind_name k ∷ []) s u
    head = ok_ok (label next ∷ []) (name ∷ []) (lw ∷ []) (kind_name k ∷ []) s t u a b

    fault_known : node_fault next ws ≡ from (label next ∷ name ∷ past)
    fault_known =
        ap (λ v. row_fault word_fault (label next ∷ name ∷ dues_past (kind_named (get_or v 1 []))) 1 ws) (sym cut ∙ head.taken)
        ∙ ap (λ o. row_fault word_fault (label next ∷ name ∷ dues_past o) 1 ws) known
        ∙ from_start (label next ∷ name ∷ past)

    module _ (n : Node) (v : Parts) (d : RowOk (operand_dues k) (operand_words n) u v) where
      body : RowOk (label next ∷ name ∷ operand_dues k) (lw ∷ kind_name k ∷ operand_words n) s v
      body = ok_ok (label next ∷ name ∷ []) (operand_dues k) (lw ∷ kind_name k ∷ []) (operand_words n) s u v head d

      whole_known : node_fault next ws ≡ from ((label next ∷ name ∷ past) ++ [])
      whole_known = fault_known ∙ ap from (sym (append-nil (label next ∷ name ∷ past)))

      pub targets_fail : (f : ℕ × ℕ) → RowErr (exit_dues (kind_exits k)) f v → node_fault next ws ≡ Some f
      targets_fail f h = whole_known ∙ (ok_err (label next ∷ name ∷ operand_dues k) (exit_dues (kind_exits k)) (lw ∷ kind_name k ∷ operand_words n) f s v body h).stops []

      module _ (ts : List ℕ) (x : Parts) (c : RowOk (exit_dues (kind_exits k)) (exit_words (kind_exits k) ts) v x) where
        all : RowOk (label next ∷ name ∷ past) (lw ∷ kind_name k ∷ (operand_words n ++ exit_words (kind_exits k) ts)) s x
        all = ok_ok (label next ∷ name ∷ operand_dues k) (exit_dues (kind_exits k)) (lw ∷ kind_name k ∷ operand_words n) (exit_words (kind_exits k) ts) s v x body c

        pub finish_fails : (f : ℕ × ℕ) → row_fault word_fault [] (x.number + 1) (left x) ≡ Some f → node_fault next ws ≡ Some f
        finish_fails f h = whole_known ∙ all.goes_on [] ∙ h

        pub entry_good : left x ≡ [] → kind_of n ≡ k
            → (ws ≡ lw ∷ kind_name (kind_of n) ∷ (operand_words n ++ exit_words (exits_of n) ts)) × (node_fault next ws ≡ None)
        entry_good none kn = (
          sym cut ∙ all.taken ∙ ap (λ (vs : List (List ℕ)). (lw ∷ kind_name k ∷ (operand_words n ++ exit_words (kind_exits k) ts)) ++ vs) none
              ∙ append-nil (lw ∷ kind_name k ∷ (operand_words n ++ exit_words (kind_exits k) ts))
              ∙ ap (λ j. lw ∷ kind_name j ∷ (operand_words n ++ exit_words (kind_exits j) ts)) (sym kn)
              ∙ ap (λ y. lw ∷ kind_name (kind_of n) ∷ (operand_words n ++ exit_words y ts)) (kind_exits_lem n),
          whole_known ∙ all.goes_on [] ∙ ap (row_fault word_fault [] (x.number + 1)) none,
        )
