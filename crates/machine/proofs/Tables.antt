-- Writing an entry of a table keeps every entry sound.
use Rattle.std.proofs.Common.{◌≡◌, ℕ, ◌<◌, ◌≤◌, true, ltb, ◌≢◌, List, ◌++◌, length, take, set, Some, sym, ap, ◌∙◌, subst, ⊎_elim, arith}
use Rattle.std.proofs.lemmas.List.Elements.{All-get_or, All-from_get_or, All-weaker}
use Rattle.std.proofs.lemmas.List.Folds.{list_all-append}
use Rattle.std.proofs.lemmas.List.Sums.{AllPass-from_list_all, list_all-from_AllPass}
use Rattle.std.proofs.lemmas.List.{get_or-set_same, get_or-set_other, get_or-take, get_or_past, length-take-le}
use Rattle.std.proofs.lemmas.Bool.{cases_eq, cases_lt, and_parts, and_from, ltb-true, lt-ltb, le-leb}
use Rattle.std.specs.List.{All}
use Rattle.machine.specs.declared.node.Entry.{Entry}
use Rattle.machine.specs.declared.node.Exits.{Exits}
use Rattle.machine.specs.declared.node.Exits.TheVariants as exits
use Rattle.machine.specs.Programs.{every_sound, checked, prog}
use Rattle.machine.proofs.Entries.{sound_parts, sound_from}
use Rattle.machine.specs.WellFormed.{AllSound, Sound, sound, leads, exits_of, entry_at, blank}

at_same : (count : ℕ) (entries : List Entry) (i : ℕ) (e : Entry) → i < length entries → Sound count e → Sound count (entry_at (set entries i e) i)
at_same count entries i e within good = subst (λ (x : Entry). Sound count x) (sym (get_or-set_same entries i e blank within)) good

at_other : (count : ℕ) (entries : List Entry) (i k : ℕ) (e : Entry) → k ≢ i → Sound count (entry_at entries k) → Sound count (entry_at (set entries i e) k)
at_other count entries i k e other good = subst (λ (x : Entry). Sound count x) (sym (get_or-set_other entries i k e blank other)) good

pub all_sound_set : (count : ℕ) (entries : List Entry) (i : ℕ) (e : Entry) → i < length entries → Sound count e → AllSound count entries → AllSound count (set entries i e)
all_sound_set count entries i e within good all k below =
    ⊎_elim
    (λ same. subst (λ (j : ℕ). Sound count (entry_at (set entries i e) j)) (sym same) (at_same count entries i e within good))
    (λ other. at_other count entries i k e other (all k below))
    (cases_eq k i)

-- what is sound in a program is sound in a longer one
below_later : (x n m : ℕ) → n ≤ m → ltb x n ≡ true → ltb x m ≡ true
below_later x n m h t = lt-ltb x m (omega (arith, ltb-true x n t))

leads_later : (n m : ℕ) (x : Exits) (targets : List ℕ) → n ≤ m → leads n x targets ≡ true → leads m x targets ≡ true
leads_later n m exits.None targets h t = t
leads_later n m exits.One targets h t = and_from _ _ (below_later _ n m h (and_parts _ _ t).0) (and_parts _ _ t).1
leads_later n m exits.Two targets h t = and_from _ _ (below_later _ n m h (and_parts _ _ t).0) (below_later _ n m h (and_parts _ _ t).1)

sound_later : (n m : ℕ) (e : Entry) → n ≤ m → Sound n e → Sound m e
sound_later n m e h good =
    let t = sound_parts n e good in
    sound_from m e (record { node = t.node; two = t.two; leads = leads_later n m (exits_of e.node) e.targets h t.leads })

-- the test of a whole list, by places
pub every_from_all : (count : ℕ) (es : List Entry) → All (Sound count) es → every_sound count es ≡ true
every_from_all count es all = list_all-from_AllPass (sound count) es all

-- no entry is sound past the end of the list
pub long_enough : (n : ℕ) (entries : List Entry) → AllSound n entries → n ≤ length entries
long_enough n entries all =
    ⊎_elim
    (λ less. let bad : Sound n blank = subst (λ (e : Entry). Sound n e) (get_or_past entries (length entries) blank (omega arith)) (all (length entries) less) in
    cc)
    (λ enough. enough)
    (cases_lt (length entries) n)

pub all_every : (n : ℕ) (entries : List Entry) → AllSound n entries → every_sound n (take n entries) ≡ true
all_every n entries all =
    every_from_all n (take n entries)
    (All-from_get_or (Sound n) (take n entries) blank
    (λ k below. let l : k < n = omega (arith, length-take-le n entries (long_enough n entries all)) in rw (get_or-take n entries k blank l) (all k l)))

pub every_all : (n : ℕ) (entries : List Entry) → n ≤ length entries → every_sound n (take n entries) ≡ true → AllSound n entries
every_all n entries fits good k below =
    subst (λ (e : Entry). Sound n e) (get_or-take n entries k blank below)
    (All-get_or (Sound n) (take n entries) k blank (omega (arith, length-take-le n entries fits)) (AllPass-from_list_all (sound n) (take n entries) good))

every_later : (n m : ℕ) (es : List Entry) → n ≤ m → every_sound n es ≡ true → every_sound m es ≡ true
every_later n m es h good =
    every_from_all m es (All-weaker (Sound n) (Sound m) (λ e. sound_later n m e h) es (AllPass-from_list_all (sound n) es good))

every_append : (n : ℕ) (es more : List Entry) → every_sound n es ≡ true → every_sound n more ≡ true → every_sound n (es ++ more) ≡ true
every_append n es more a b = list_all-append (sound n) es more ∙ and_from _ _ a b

-- entries put behind the first n
pub appended_sound : (n m : ℕ) (before after more : List Entry) → n ≤ m → m ≤ length after → AllSound n before → every_sound m more ≡ true → take m after ≡ take n before ++ more → AllSound m after
appended_sound n m before after more h fits all good is =
    every_all m after fits
    (ap (every_sound m) is ∙ every_append m (take n before) more (every_later n m (take n before) h (all_every n before all)) good)

module _ (entries : List Entry) (count first : ℕ) where
  pub checked_good : count ≤ 200 → first < count → every_sound count (take count entries) ≡ true → checked entries count first ≡ Some (prog (take count entries) first)
  checked_good few starts good = rw (le-leb count 200 few, lt-ltb first count starts, good)
