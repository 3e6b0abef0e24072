-- The line of a node: the exits past the node, and the end.
use Rattle.std.proofs.Common.{◌≡◌, ◌≢◌, ℕ, List, Some, sym, ap, subst, ◌∙◌, rules}
use Rattle.std.proofs.lemmas.Result.{err_from_is_err_and}
use Rattle.machine.specs.declared.node.Exits.{Exits}
use Rattle.machine.specs.declared.node.Node.{Node}
use Rattle.machine.specs.Limits.{node_limit}
use Rattle.machine.specs.WellFormed.{exits_of}
use Rattle.text.specs.declared.kind.Kind.{Kind}
use Rattle.text.specs.declared.read.parts.Parts.{Parts}
use Rattle.text.specs.Entries.{TargetsFit}
use Rattle.text.specs.Kinds.{kind_name, kind_of, kind_exits}
use Rattle.text.specs.Print.{label_word, exit_words}
use Rattle.text.specs.RowReads.{RowOk, RowErr}
use Rattle.text.specs.Rows.{label, name, kind_named, exit_dues}
use Rattle.text.proofs.KindLaws.{kind_exits_lem}
use Rattle.text.proofs.RowLaws.{word_ok}
use Rattle.text.proofs.EntryLaws.{entry_exit, targets_fail, finish_fails, entry_good}
use Rattle.text.proofs.read.entry.entry.Goals as goal

-- the exits of the node are those of its kind
known_exits : (k : Kind) (n : Node) (x : Exits) → kind_of n ≡ k → x ≡ exits_of n → x ≡ kind_exits k
known_exits k n x e h = h ∙ sym (kind_exits_lem n) ∙ ap kind_exits e

err_of_kind : (k : Kind) (n : Node) (x : Exits) → kind_of n ≡ k → x ≡ exits_of n → (f : ℕ × ℕ) (s : Parts) → RowErr (exit_dues x) f s → RowErr (exit_dues (kind_exits k)) f s
err_of_kind k n x e h f s r = subst (λ y. RowErr (exit_dues y) f s) (known_exits k n x e h) r

ok_of_kind : (k : Kind) (n : Node) (x : Exits) → kind_of n ≡ k → x ≡ exits_of n → (ts : List ℕ) (s t : Parts) → RowOk (exit_dues x) (exit_words x ts) s t
    → RowOk (exit_dues (kind_exits k)) (exit_words (kind_exits k) ts) s t
ok_of_kind k n x e h ts s t r = subst (λ y. RowOk (exit_dues y) (exit_words y ts) s t) (known_exits k n x e h) r

pub returns-in_err-targets : goal.returns-in_err-targets
returns-in_err-targets c =
    let p = err_from_is_err_and c.from_residual-in_err-targets.result c.from_residual-in_err-targets.ensures.1 in
    let l = word_ok (label c.args.next) (λ _. label_word c.args.next) (λ _. c.args.next ≢ node_limit) (λ w a h. search rules) c.in_ok-read.ensures in
    let k = word_ok name kind_name (λ k. kind_named (kind_name k) ≡ Some k) (λ w a h. search rules) c.in_ok-kind.ensures in
    entry_exit c.args.next c.new-words.result _ c.new-words.ensures.number c.new-words.ensures.left _ _ _ p.1 p.2
    (targets_fail c.args.next c.new-words.result _ c.new-words.ensures.number c.new-words.ensures.left
    c.in_ok-kind.kind k.1 _ _ _ l.0 k.0 c.in_ok-node.node _ c.in_ok-node.ensures.0 _
    (err_of_kind c.in_ok-kind.kind c.in_ok-node.node c.exits.result c.in_ok-node.ensures.1.0 c.exits.ensures _ _ c.in_err-targets.ensures))

pub returns-in_err-finish : goal.returns-in_err-finish
returns-in_err-finish c =
    let p = err_from_is_err_and c.from_residual-in_err-finish.result c.from_residual-in_err-finish.ensures.1 in
    let l = word_ok (label c.args.next) (λ _. label_word c.args.next) (λ _. c.args.next ≢ node_limit) (λ w a h. search rules) c.in_ok-read.ensures in
    let k = word_ok name kind_name (λ k. kind_named (kind_name k) ≡ Some k) (λ w a h. search rules) c.in_ok-kind.ensures in
    entry_exit c.args.next c.new-words.result _ c.new-words.ensures.number c.new-words.ensures.left _ _ _ p.1 p.2
    (finish_fails c.args.next c.new-words.result _ c.new-words.ensures.number c.new-words.ensures.left
    c.in_ok-kind.kind k.1 _ _ _ l.0 k.0 c.in_ok-node.node _ c.in_ok-node.ensures.0 c.in_ok-targets.targets _
    (ok_of_kind c.in_ok-kind.kind c.in_ok-node.node c.exits.result c.in_ok-node.ensures.1.0 c.exits.ensures c.in_ok-targets.targets _ _ c.in_ok-targets.ensures.0) _ c.in_err-finish.ensures)

pub returns : goal.returns
returns c =
    let l = word_ok (label c.args.next) (λ _. label_word c.args.next) (λ _. c.args.next ≢ node_limit) (λ w a h. search rules) c.in_ok-read.ensures in
    let k = word_ok name kind_name (λ k. kind_named (kind_name k) ≡ Some k) (λ w a h. search rules) c.in_ok-kind.ensures in
    let g =
    entry_good c.args.next c.new-words.result _ c.new-words.ensures.number c.new-words.ensures.left
    c.in_ok-kind.kind k.1 _ _ _ l.0 k.0 c.in_ok-node.node _ c.in_ok-node.ensures.0 c.in_ok-targets.targets _
    (ok_of_kind c.in_ok-kind.kind c.in_ok-node.node c.exits.result c.in_ok-node.ensures.1.0 c.exits.ensures c.in_ok-targets.targets _ _ c.in_ok-targets.ensures.0)
    c.in_ok-finish.ensures c.in_ok-node.ensures.1.0 in
    (g.0, g.1, (c.in_ok-node.ensures.1.1, subst (λ x. TargetsFit x c.in_ok-targets.targets) c.exits.ensures c.in_ok-targets.ensures.1), l.1)
