use Rattle.std.proofs.Common.{◌≡◌, ◌≤◌, ◌<◌, ◌*◌, ◌^◌, ◌⊎◌, ◌++◌, inl, inr, ℕ, List, length, Option, Some, None, Result, Ok, Err, IfOk, refl, sym, ap, subst, ◌∙◌, arith, rules}
use Rattle.disk_commands.specs.declared.sizes.SizeWordFault.{SizeWordFault}
use Rattle.disk_commands.specs.declared.sizes.SizeWordFault.TheVariants as fault
use Rattle.disk_commands.specs.Sizes.{SaysUnits, SpellsSize, count_from, digits_behind_point, rest_of, suffix_of, unit_of, whole_of}
use Rattle.disk_commands.proofs.SizeLemmas.{parts_of, same_amount, says_by, taken_apart}
use Rattle.disk_commands.proofs.sizes.size_from.Goals as goal

-- what a word without digits, or with too many of them behind a point, says
no_units : (word whole part : List ℕ) (digits places unit : ℕ) → whole ≡ whole_of word → part ≡ digits_behind_point (rest_of word) → (length whole ≡ 0) ⊎ (18 < length part) → SaysUnits word digits places unit → ⊥
no_units word whole part digits places unit w p (inl none) says =
    let it = parts_of word digits places unit says in omega (arith, ap length w, it.some_whole, none)
no_units word whole part digits places unit w p (inr many) says =
    let it = parts_of word digits places unit says in omega (arith, ap length p, it.few, many)

-- it says no other units than those of its parts
same_units : (word whole part suffix : List ℕ) (digits places unit d u : ℕ) → whole ≡ whole_of word → part ≡ digits_behind_point (rest_of word) → suffix ≡ suffix_of (rest_of word)
    → count_from 0 (whole ++ part) ≡ Some d → unit_of suffix ≡ Some u → SaysUnits word digits places unit → (digits ≡ d) × (places ≡ length part) × (unit ≡ u)
same_units word whole part suffix digits places unit d u w p s counted named says =
    let it = parts_of word digits places unit says in
    let first : Some d ≡ Some digits = sym counted ∙ ap (λ xs. count_from 0 (xs ++ part)) w ∙ ap (λ ys. count_from 0 (whole_of word ++ ys)) p ∙ it.digits_are in
    let last : Some u ≡ Some unit = sym named ∙ ap unit_of s ∙ it.unit_is in
    ((let e : d ≡ digits = cc in sym e), it.places_are ∙ ap length (sym p), (let e : u ≡ unit = cc in sym e))

says_those : (word whole part suffix : List ℕ) (d u : ℕ) → whole ≡ whole_of word → part ≡ digits_behind_point (rest_of word) → suffix ≡ suffix_of (rest_of word)
    → 1 ≤ length whole → length part ≤ 18 → count_from 0 (whole ++ part) ≡ Some d → unit_of suffix ≡ Some u → SaysUnits word d (length part) u
says_those word whole part suffix d u w p s some few counted named = says_by word d (length part) u (record {
  some_whole = subst (λ xs. 1 ≤ length xs) w some;
  few = subst (λ xs. length xs ≤ 18) p few;
  places_are = ap length p;
  digits_are = ap (λ xs. count_from 0 (xs ++ digits_behind_point (rest_of word))) (sym w) ∙ ap (λ ys. count_from 0 (whole ++ ys)) (sym p) ∙ counted;
  unit_is = ap unit_of (sym s) ∙ named;
})

-- ---- by what an amount came to

ok_by : (word : List ℕ) (d places u : ℕ) (r : Result ℕ SizeWordFault) → SaysUnits word d places u
    → IfOk r (λ bytes. (bytes * 10 ^ places ≡ d * u) × (1 ≤ bytes) × (bytes ≤ 2 ^ 63)) → IfOk r (SpellsSize word)
ok_by word d places u (Ok bytes) says are = record { digits = d; places = places; unit = u; says = says; product = are.0; least = are.1; most = are.2 }
ok_by word d places u (Err e) says are = are

all_by : (d places u bytes : ℕ) (r : Result ℕ SizeWordFault)
    → IfOk r (λ b. (b * 10 ^ places ≡ d * u) × (1 ≤ b) × (b ≤ 2 ^ 63))
    → (r ≡ Err fault.PartOfByte → (b : ℕ) → b * 10 ^ places ≡ d * u → ⊥)
    → (r ≡ Err fault.NoSize → (b : ℕ) × (b * 10 ^ places ≡ d * u) × (1 ≤ b → b ≤ 2 ^ 63 → ⊥))
    → bytes * 10 ^ places ≡ d * u → 1 ≤ bytes → bytes ≤ 2 ^ 63 → r ≡ Ok bytes
all_by d places u bytes (Ok b) ok part none product least most = ap Ok (same_amount b bytes places (d * u) ok.0 product)
all_by d places u bytes (Err fault.PartOfByte) ok part none product least most = absurd (part refl bytes product)
all_by d places u bytes (Err fault.NoSize) ok part none product least most =
    let it = none refl in
    let same = same_amount it.0 bytes places (d * u) it.1 product in
    absurd (it.2 (subst (λ b. 1 ≤ b) (sym same) least) (subst (λ b. b ≤ 2 ^ 63) (sym same) most))

part_by : (d places u : ℕ) (r : Result ℕ SizeWordFault)
    → IfOk r (λ b. (b * 10 ^ places ≡ d * u) × (1 ≤ b) × (b ≤ 2 ^ 63))
    → (r ≡ Err fault.NoSize → (b : ℕ) × (b * 10 ^ places ≡ d * u) × (1 ≤ b → b ≤ 2 ^ 63 → ⊥))
    → ((b : ℕ) → b * 10 ^ places ≡ d * u → ⊥) → r ≡ Err fault.PartOfByte
part_by d places u (Ok b) ok none never = absurd (never b ok.0)
part_by d places u (Err fault.PartOfByte) ok none never = refl
part_by d places u (Err fault.NoSize) ok none never = let it = none refl in absurd (never it.0 it.1)

pub returns-then-is_empty-clause-all : goal.returns-then-is_empty-clause-all
returns-then-is_empty-clause-all c bytes spelled =
    let it = taken_apart c.args.word.now c.as_bytes-text.result.now c.split_at.result.0.now c.split_at.result.1.now c.part_and_suffix.result.0.now c.part_and_suffix.result.1.now c.digits_before.result
    c.as_bytes-text.ensures.value c.digits_before.ensures.is c.split_at.ensures.front c.split_at.ensures.back c.part_and_suffix.ensures.part c.part_and_suffix.ensures.suffix in
    absurd (no_units c.args.word.now c.split_at.result.0.now c.part_and_suffix.result.0.now spelled.digits spelled.places spelled.unit it.0 it.1 (search rules) spelled.says)

pub returns-then-is_empty-clause-all_parts : goal.returns-then-is_empty-clause-all_parts
returns-then-is_empty-clause-all_parts c spelled =
    let it = taken_apart c.args.word.now c.as_bytes-text.result.now c.split_at.result.0.now c.split_at.result.1.now c.part_and_suffix.result.0.now c.part_and_suffix.result.1.now c.digits_before.result
    c.as_bytes-text.ensures.value c.digits_before.ensures.is c.split_at.ensures.front c.split_at.ensures.back c.part_and_suffix.ensures.part c.part_and_suffix.ensures.suffix in
    absurd (no_units c.args.word.now c.split_at.result.0.now c.part_and_suffix.result.0.now spelled.digits spelled.places spelled.unit it.0 it.1 (search rules) spelled.says)

pub returns-in-Some-clause-ok : goal.returns-in-Some-clause-ok
returns-in-Some-clause-ok c =
    let it = taken_apart c.args.word.now c.as_bytes-text.result.now c.split_at.result.0.now c.split_at.result.1.now c.part_and_suffix.result.0.now c.part_and_suffix.result.1.now c.digits_before.result
    c.as_bytes-text.ensures.value c.digits_before.ensures.is c.split_at.ensures.front c.split_at.ensures.back c.part_and_suffix.ensures.part c.part_and_suffix.ensures.suffix in
    let says = says_those c.args.word.now c.split_at.result.0.now c.part_and_suffix.result.0.now c.part_and_suffix.result.1.now c.in-Some.digits c.in-Some.unit it.0 it.1 it.2
    (search rules) (omega (arith, c.if-part-gt-MOST_PLACES.false)) c.in-Some.ensures.some.0 c.in-Some.ensures.some.1 in
    ok_by c.args.word.now c.in-Some.digits (length c.part_and_suffix.result.0.now) c.in-Some.unit c.amount.result says c.amount.ensures.ok

pub returns-in-Some-clause-all : goal.returns-in-Some-clause-all
returns-in-Some-clause-all c bytes spelled =
    let it = taken_apart c.args.word.now c.as_bytes-text.result.now c.split_at.result.0.now c.split_at.result.1.now c.part_and_suffix.result.0.now c.part_and_suffix.result.1.now c.digits_before.result
    c.as_bytes-text.ensures.value c.digits_before.ensures.is c.split_at.ensures.front c.split_at.ensures.back c.part_and_suffix.ensures.part c.part_and_suffix.ensures.suffix in
    let same = same_units c.args.word.now c.split_at.result.0.now c.part_and_suffix.result.0.now c.part_and_suffix.result.1.now spelled.digits spelled.places spelled.unit c.in-Some.digits c.in-Some.unit
    it.0 it.1 it.2 c.in-Some.ensures.some.0 c.in-Some.ensures.some.1 spelled.says in
    let product : bytes * 10 ^ length c.part_and_suffix.result.0.now ≡ c.in-Some.digits * c.in-Some.unit =
    ap (λ n. bytes * 10 ^ n) (sym same.1) ∙ spelled.product ∙ ap (λ x. x * spelled.unit) same.0 ∙ ap (λ y. c.in-Some.digits * y) same.2 in
    all_by c.in-Some.digits (length c.part_and_suffix.result.0.now) c.in-Some.unit bytes c.amount.result c.amount.ensures.ok c.amount.ensures.part c.amount.ensures.none product spelled.least spelled.most

pub returns-in-Some-clause-part : goal.returns-in-Some-clause-part
returns-in-Some-clause-part c told =
    let it = taken_apart c.args.word.now c.as_bytes-text.result.now c.split_at.result.0.now c.split_at.result.1.now c.part_and_suffix.result.0.now c.part_and_suffix.result.1.now c.digits_before.result
    c.as_bytes-text.ensures.value c.digits_before.ensures.is c.split_at.ensures.front c.split_at.ensures.back c.part_and_suffix.ensures.part c.part_and_suffix.ensures.suffix in
    record {
      digits = c.in-Some.digits;
      places = length c.part_and_suffix.result.0.now;
      unit = c.in-Some.unit;
      says = says_those c.args.word.now c.split_at.result.0.now c.part_and_suffix.result.0.now c.part_and_suffix.result.1.now c.in-Some.digits c.in-Some.unit it.0 it.1 it.2
          (search rules) (omega (arith, c.if-part-gt-MOST_PLACES.false)) c.in-Some.ensures.some.0 c.in-Some.ensures.some.1;
      no_bytes = c.amount.ensures.part told;
    }

pub returns-in-Some-clause-all_parts : goal.returns-in-Some-clause-all_parts
returns-in-Some-clause-all_parts c spelled =
    let it = taken_apart c.args.word.now c.as_bytes-text.result.now c.split_at.result.0.now c.split_at.result.1.now c.part_and_suffix.result.0.now c.part_and_suffix.result.1.now c.digits_before.result
    c.as_bytes-text.ensures.value c.digits_before.ensures.is c.split_at.ensures.front c.split_at.ensures.back c.part_and_suffix.ensures.part c.part_and_suffix.ensures.suffix in
    let same = same_units c.args.word.now c.split_at.result.0.now c.part_and_suffix.result.0.now c.part_and_suffix.result.1.now spelled.digits spelled.places spelled.unit c.in-Some.digits c.in-Some.unit
    it.0 it.1 it.2 c.in-Some.ensures.some.0 c.in-Some.ensures.some.1 spelled.says in
    part_by c.in-Some.digits (length c.part_and_suffix.result.0.now) c.in-Some.unit c.amount.result c.amount.ensures.ok c.amount.ensures.none
    (λ b e. spelled.no_bytes b (ap (λ n. b * 10 ^ n) same.1 ∙ e ∙ ap (λ x. x * c.in-Some.unit) (sym same.0) ∙ ap (λ y. spelled.digits * y) (sym same.2)))

-- where its parts are no units, it says none
none_here : (word whole part suffix : List ℕ) (digits places unit : ℕ) (r : Option (ℕ × ℕ)) → whole ≡ whole_of word → part ≡ digits_behind_point (rest_of word) → suffix ≡ suffix_of (rest_of word)
    → ((d u : ℕ) → count_from 0 (whole ++ part) ≡ Some d → unit_of suffix ≡ Some u → r ≡ Some (d, u)) → r ≡ None → SaysUnits word digits places unit → ⊥
none_here word whole part suffix digits places unit r w p s all none says =
    let it = parts_of word digits places unit says in
    let some = all digits unit (ap (λ xs. count_from 0 (xs ++ part)) w ∙ ap (λ ys. count_from 0 (whole_of word ++ ys)) p ∙ it.digits_are) (ap unit_of s ∙ it.unit_is) in
    let clash : ◌≡◌ {A = Option (ℕ × ℕ)} None (Some (digits, unit)) = sym none ∙ some in cc

pub returns-in-None-clause-all : goal.returns-in-None-clause-all
returns-in-None-clause-all c bytes spelled =
    let it = taken_apart c.args.word.now c.as_bytes-text.result.now c.split_at.result.0.now c.split_at.result.1.now c.part_and_suffix.result.0.now c.part_and_suffix.result.1.now c.digits_before.result
    c.as_bytes-text.ensures.value c.digits_before.ensures.is c.split_at.ensures.front c.split_at.ensures.back c.part_and_suffix.ensures.part c.part_and_suffix.ensures.suffix in
    absurd (none_here c.args.word.now c.split_at.result.0.now c.part_and_suffix.result.0.now c.part_and_suffix.result.1.now spelled.digits spelled.places spelled.unit c.units.result it.0 it.1 it.2
    c.units.ensures.all c.in-None.is spelled.says)

pub returns-in-None-clause-all_parts : goal.returns-in-None-clause-all_parts
returns-in-None-clause-all_parts c spelled =
    let it = taken_apart c.args.word.now c.as_bytes-text.result.now c.split_at.result.0.now c.split_at.result.1.now c.part_and_suffix.result.0.now c.part_and_suffix.result.1.now c.digits_before.result
    c.as_bytes-text.ensures.value c.digits_before.ensures.is c.split_at.ensures.front c.split_at.ensures.back c.part_and_suffix.ensures.part c.part_and_suffix.ensures.suffix in
    absurd (none_here c.args.word.now c.split_at.result.0.now c.part_and_suffix.result.0.now c.part_and_suffix.result.1.now spelled.digits spelled.places spelled.unit c.units.result it.0 it.1 it.2
    c.units.ensures.all c.in-None.is spelled.says)
