-- Rows of words, one after another.
use Rattle.std.proofs.Common.{ℕ, ◌+◌, List, [], ◌∷◌, ◌++◌, Ok, Result, sym, ap, ◌∙◌, append_assoc, arith, length-append}
use Rattle.text.specs.declared.read.parts.Parts.{Parts}
use Rattle.text.specs.Cuts.{left}
use Rattle.text.specs.Rows.{Due, word_fault, row_fault}
use Rattle.text.specs.RowReads.{RowOk, RowErr, Answers}
use Rattle.text.specs.WordReads.{WordRead}
use Rattle.text.specs.declared.cause.Cause.{Cause}

-- one word, read by what is due
module _ {V : Type 0} (d : Due) (spelled : V → List ℕ) (fits : V → Type 0) {P : List ℕ → Result V Cause → Type 0} (tells : (w : List ℕ) (a : Result V Cause) → P w a → WordRead d spelled fits w a) where
  pub word_ok : {s t : Parts} {v : V} → Answers P s (Ok v) t → RowOk (d ∷ []) (spelled v ∷ []) s t × fits v
  word_ok {s} {t} {v} h =
      let p = tells h.word (Ok v) h.answered in (
        record {
          taken = h.given.taken ∙ ap (λ (w : List ℕ). w ∷ left t) p.0;
          goes_on = λ more. rw (h.given.taken, p.1, h.given.counted);
          near = omega (arith, h.given.counted);
        },
        p.2,
      )

pub ok_ok : (ds es : List Due) (ws vs : List (List ℕ)) (s t u : Parts) → RowOk ds ws s t → RowOk es vs t u → RowOk (ds ++ es) (ws ++ vs) s u
ok_ok ds es ws vs s t u a b = record {
  taken = a.taken ∙ ap (λ (x : List (List ℕ)). ws ++ x) b.taken ∙ sym (append_assoc ws vs (left u));
  goes_on = λ more. ap (λ d. row_fault word_fault d (s.number + 1) (left s)) (append_assoc ds es more) ∙ a.goes_on (es ++ more) ∙ b.goes_on more;
  near = omega (arith, length-append ds es, a.near, b.near);
}

pub ok_err : (ds es : List Due) (ws : List (List ℕ)) (f : ℕ × ℕ) (s t : Parts) → RowOk ds ws s t → RowErr es f t → RowErr (ds ++ es) f s
ok_err ds es ws f s t a b = record
    { stops = λ more. ap (λ d. row_fault word_fault d (s.number + 1) (left s)) (append_assoc ds es more) ∙ a.goes_on (es ++ more) ∙ b.stops more }
