-- Two programs whose runs keep meeting in configurations that look alike are equivalent.
use Rattle.std.proofs.Common.{◌≡◌, ℕ, zero, suc, ◌+◌, List, [], ◌∷◌, ◌++◌, length, Some, None, Option, sym, refl, ap, ◌∙◌, subst, subst₂, suc-add, zero-add, arith, length-append}
use Rattle.std.proofs.lemmas.List.{append-nil, get_or_append_left}
use Rattle.machine.specs.declared.node.Entry.{Entry}
use Rattle.machine.specs.declared.node.Node.{Node}
use Rattle.machine.specs.declared.node.Node.TheVariants.{Mov, Binary, In, Out, Ld, St, Br, Skip, Halt, Fail}
use Rattle.machine.specs.declared.outcome.Ending.{Ending}
use Rattle.machine.specs.Arithmetic.{computed}
use Rattle.machine.specs.Equivalent.{Runnable, state_in, WordAt, Writes, Ends, Equivalent}
use Rattle.machine.specs.Programs.{Prog}
use Rattle.machine.specs.Runs.{Config, running, ended, entry_of, follow, step, after, start, unlimited}
use Rattle.machine.specs.State.{State, value}
use Rattle.machine.specs.Step.{Effect, leaves, ends, keep, read_into, act}
use Rattle.machine.proofs.Validity.{state_after}

-- what two runs must share where they meet: the words written, and at an end all that an end shows
abbrev pub Alike : Config → Config → Type 0
Alike (running i s) (running j t) = s.written ≡ t.written
Alike (running i s) (ended k t) = ⊥
Alike (ended k s) (running i t) = ⊥
Alike (ended k s) (ended l t) = (k ≡ l) × (s.written ≡ t.written) × (s.cells ≡ t.cells) × (s.inputs ≡ t.inputs)

pub same_alike : (c : Config) → Alike c c
same_alike (running n s) = refl
same_alike (ended k s) = (refl, refl, refl, refl)

alike_sym : (c d : Config) → Alike c d → Alike d c
alike_sym (running i s) (running j t) a = sym a
alike_sym (running i s) (ended k t) a = absurd a
alike_sym (ended k s) (running i t) a = absurd a
alike_sym (ended k s) (ended l t) a = (sym a.0, sym a.1, sym a.2, sym a.3)

alike_written : (c d : Config) → Alike c d → (state_in c).written ≡ (state_in d).written
alike_written (running i s) (running j t) a = a
alike_written (running i s) (ended k t) a = absurd a
alike_written (ended k s) (running i t) a = absurd a
alike_written (ended k s) (ended l t) a = a.1

-- the two runs from these cells and inputs keep meeting in configurations that R relates
pub record Together (p q : Prog) (cells inputs : List ℕ) (R : Config → Config → Type 0) : Type 0 where
  pub begins : R (start p cells inputs) (start q cells inputs)
  pub alike : (c d : Config) → R c d → Alike c d
  pub meets : (c d : Config) → R c d → (a : ℕ) × (b : ℕ) × R (after p (suc a) c) (after q (suc b) d)

pub after_step : (p : Prog) (n : ℕ) (c : Config) → after p n (step p c) ≡ step p (after p n c)
after_step p zero c = refl
after_step p (suc n) c = after_step p n (step p c)

pub after_add : (p : Prog) (m n : ℕ) (c : Config) → after p (m + n) c ≡ after p n (after p m c)
after_add p zero n c = ap (λ k. after p k c) (zero-add n)
after_add p (suc m) n c = ap (λ k. after p k c) (suc-add m n) ∙ after_add p m n (step p c)

-- a node only appends to the words written
abbrev Appends : State → Effect → Type 0
Appends s f = (more : List ℕ) × ((state_after f).written ≡ s.written ++ more)

appends_none : (s : State) → (more : List ℕ) × (s.written ≡ s.written ++ more)
appends_none s = ([], sym (append-nil s.written))

appends_keep : (s : State) (to : ℕ) (o : Option ℕ) → Appends s (keep s to o)
appends_keep s to (Some v) = appends_none s
appends_keep s to None = appends_none s

appends_input : (s : State) (to : ℕ) (rest : List ℕ) → Appends s (read_into s to rest)
appends_input s to [] = appends_none s
appends_input s to (w ∷ rest) = appends_none s

pub only_appends : (n : Node) (s : State) → (more : List ℕ) × ((state_after (act n s)).written ≡ s.written ++ more)
only_appends (Mov to from) s = appends_none s
only_appends (Binary op to left right) s = appends_keep s to (computed op (value s.regs left) (value s.regs right))
only_appends (In to) s = appends_input s to s.inputs
only_appends (Out from) s = (value s.regs from ∷ [], refl)
only_appends (Ld to cell) s = appends_none s
only_appends (St cell from) s = appends_none s
only_appends (Br on) s = appends_none s
only_appends Skip s = appends_none s
only_appends Halt s = appends_none s
only_appends (Fail fault) s = appends_none s

-- what a run of p keeps once it holds, and a configuration that looks alike has too
record Lasting (p : Prog) (Φ : Config → Type 0) : Type 0 where
  pub on : (c : Config) → Φ c → Φ (step p c)
  pub seen : (c d : Config) → Alike c d → Φ c → Φ d

lasts : (p : Prog) (Φ : Config → Type 0) → Lasting p Φ → (n : ℕ) (c : Config) → Φ c → Φ (after p n c)
lasts p Φ l zero c h = h
lasts p Φ l (suc n) c h = lasts p Φ l n (step p c) (l.on c h)

-- a word written
state_followed : (entry : Entry) (f : Effect) → state_in (follow entry f) ≡ state_after f
state_followed entry (leaves e t) = refl
state_followed entry (ends k t) = refl

word_append : (ws more : List ℕ) (i w : ℕ) → WordAt ws i w → WordAt (ws ++ more) i w
word_append ws more i w h = (simp length-append (omega arith), get_or_append_left ws more 0 i h.0 ∙ h.1)

words_last : (p : Prog) (i w : ℕ) → Lasting p (λ c. WordAt (state_in c).written i w)
words_last p i w = record { on = on; seen = λ c d a h. subst (λ ws. WordAt ws i w) (alike_written c d a) h }
  where
    on : (c : Config) → WordAt (state_in c).written i w → WordAt (state_in (step p c)).written i w
    on (running n s) h =
        let entry = entry_of p n in
        let more = only_appends entry.node s in
        let grown = ap (λ t. t.written) (state_followed entry (act entry.node s)) ∙ more.1 in
        subst (λ ws. WordAt ws i w) (sym grown) (word_append s.written more.0 i w h)
    on (ended k s) h = h

-- an ending, with what `Ends` tells of it; `whole` is the number of all inputs
abbrev Over : Ending → List ℕ → ℕ → ℕ → Config → Type 0
Over k cells' read whole c = (final : State) × (c ≡ ended k final) × (final.cells ≡ cells') × (length final.inputs + read ≡ whole)

endings_last : (p : Prog) (k : Ending) (cells' : List ℕ) (read whole : ℕ) → Lasting p (Over k cells' read whole)
endings_last p k cells' read whole = record { on = λ c h. (h.0, ap (step p) h.1, h.2, h.3); seen = seen }
  where
    seen : (c d : Config) → Alike c d → Over k cells' read whole c → Over k cells' read whole d
    seen (running i s) d a h = cc h.1
    seen (ended l s) (running i t) a h = absurd a
    seen (ended l s) (ended m t) a h = (t, cc, cc, cc)

module _ {p q : Prog} {cells inputs : List ℕ} {R : Config → Config → Type 0} (t : Together p q cells inputs R) where
  turned : Together q p cells inputs (λ d c. R c d)
  turned =
      record {
        begins = t.begins;
        alike = λ d c r. alike_sym c d (t.alike c d r);
        meets = λ d c r. let m = t.meets c d r in (m.1, m.0, m.2);
      }

  -- however far p has run, it runs on to where the two meet
  later : (c d : Config) → R c d → (n : ℕ) → (a : ℕ) × (b : ℕ) × R (after p a (after p n c)) (after q b d)
  later c d r zero = (0, 0, r)
  later c d r (suc n) = let m = later c d r n in onward m.0 m.1 m.2
    where
      onward : (a b : ℕ) → R (after p a (after p n c)) (after q b d) → (a : ℕ) × (b : ℕ) × R (after p a (after p n (step p c))) (after q b d)
      onward zero b r' =
          let m = t.meets (after p n c) (after q b d) r' in
          (m.0, b + suc m.1, subst₂ R (ap (after p m.0) (sym (after_step p n c))) (sym (after_add q b (suc m.1) d)) m.2)
      onward (suc a) b r' = (a, b, subst (λ x. R (after p a x) (after q b d)) (sym (after_step p n c)) r')

  carried : (Φ : Config → Type 0) → Lasting p Φ → (n : ℕ) → Φ (unlimited p cells inputs n) → (m : ℕ) × Φ (unlimited q cells inputs m)
  carried Φ l n h =
      let m = later (start p cells inputs) (start q cells inputs) t.begins n in
      (m.1, l.seen _ _ (t.alike _ _ m.2) (lasts p Φ l m.0 (unlimited p cells inputs n) h))

  words_carried : (i w : ℕ) → Writes p cells inputs i w → Writes q cells inputs i w
  words_carried i w h =
      let m = carried _ (words_last p i w) h.steps h.word in
      record { steps = m.0; word = m.1 }

  endings_carried : (k : Ending) (cells' : List ℕ) (read : ℕ) → Ends p cells inputs k cells' read → Ends q cells inputs k cells' read
  endings_carried k cells' read h =
      let m = carried _ (endings_last p k cells' read (length inputs)) h.steps (h.final, h.over, h.holds, h.left) in
      record { steps = m.0; final = m.1.0; over = m.1.1; holds = m.1.2; left = m.1.3 }

pub together_equivalent : (p q : Prog) (R : List ℕ → List ℕ → Config → Config → Type 0) →
    ((cells inputs : List ℕ) → Runnable cells inputs → Together p q cells inputs (R cells inputs)) → Equivalent p q
together_equivalent p q R t =
    record {
      words = λ cells inputs ok i w. (words_carried (t cells inputs ok) i w, words_carried (turned (t cells inputs ok)) i w);
      endings = λ cells inputs ok k cells' read.
          (endings_carried (t cells inputs ok) k cells' read, endings_carried (turned (t cells inputs ok)) k cells' read);
    }
