-- The members of an object.
use Rattle.std.proofs.Common.{rules, arith, ◌≡◌, ◌<◌, ◌≤◌, ◌+◌, ◌-◌, ◌*◌, ◌/◌, ◌%◌, ◌^◌, ◌++◌, ℕ, List, [], ◌∷◌, Option, Some, None, option_map, ap, refl, length, length-append, ◌∙◌}
use Rattle.std.specs.Prelude.{codes, decimal}
use Rattle.std.specs.Option.{option_and_then}
use Rattle.std.proofs.lemmas.Fmt.{decimal_by_steps}
use Rattle.std.proofs.lemmas.Option.{same_Some}
use Rattle.serde_json.specs.Data.{Data, Members}
use Rattle.serde_json.specs.Events.{members_len}
use Rattle.serde_json.specs.Find.{as_object}
use Rattle.page_layout.specs.declared.geometry.Geometry.{Geometry}
use Rattle.program_words.specs.Numbers.{StartsWithNumber, next_value, number_from, number_of}
use Rattle.disk_commands.specs.ShapeText.{ShapeToldLaw, geometry_words, member_count}
use Rattle.disk_commands.specs.ShapeWords.{SaysGeometry}

-- how many members an object has
pub size_is : (d : Data) (ms : Members) (n : ℕ) → as_object d ≡ Some ms → members_len ms ≡ n → member_count d ≡ Some n
size_is d ms n is size = ap (option_map members_len) is ∙ ap Some size

-- ---- the digits of a number are read as that number

whole_option : (o : Option ℕ) → option_and_then (λ m. number_from m []) o ≡ o
whole_option None = refl
whole_option (Some m) = refl

then_digits : (o : Option ℕ) (f g : ℕ → Option ℕ) (m : ℕ) (r : Option ℕ) → option_and_then f o ≡ Some m → ((j : ℕ) → f j ≡ Some m → g j ≡ r) → option_and_then g o ≡ r
then_digits None f g m r is h = absurd (let no : None ≡ Some m = is in cc)
then_digits (Some j) f g m r is h = h j is

one_more : (k : ℕ) (ds : List ℕ) (c m : ℕ) → number_from k ds ≡ Some m → number_from k (ds ++ (c ∷ [])) ≡ next_value m c
one_more k [] c m is = whole_option (next_value k c) ∙ ap (λ j. next_value j c) (same_Some k m is)
one_more k (d ∷ ds) c m is = then_digits (next_value k d) (λ j. number_from j ds) (λ j. number_from j (ds ++ (c ∷ []))) m (next_value m c) is (λ j at. one_more j ds c m at)

value_of : (m n c : ℕ) → 48 ≤ c → c ≤ 57 → m * 10 + (c - 48) ≡ n → n < 2 ^ 32 → next_value m c ≡ Some n
value_of m n c least most is small = search (rules, least, most, is, small)

not_empty : (ds : List ℕ) (m : ℕ) → 0 < length ds → number_from 0 ds ≡ Some m → number_of ds ≡ Some m
not_empty [] m some is = absurd (omega (arith, some))
not_empty (c ∷ cs) m some is = is

abbrev Reads : ℕ → List ℕ → Type 0
Reads m ds = m < 2 ^ 32 → (number_from 0 ds ≡ Some m) × (0 < length ds)

read_one : (m : ℕ) → m < 10 → Reads m ((48 + m) ∷ [])
read_one m less small = (whole_option (next_value 0 (48 + m)) ∙ value_of 0 m (48 + m) (omega arith) (omega (arith, less)) (omega arith) small, omega arith)

read_more : (m : ℕ) (ds : List ℕ) → 10 ≤ m → Reads (m / 10) ds → Reads m (ds ++ ((48 + m % 10) ∷ []))
read_more m ds least h small =
    let front = h (omega (arith, small)) in
    (one_more 0 ds (48 + m % 10) (m / 10) front.0 ∙ value_of (m / 10) m (48 + m % 10) (omega arith) (omega arith) (omega arith) small, omega (arith, length-append ds ((48 + m % 10) ∷ [])))

number_back : (n : ℕ) → n < 2 ^ 32 → number_of (decimal n) ≡ Some n
number_back n small =
    let both = decimal_by_steps Reads read_one read_more n (omega (arith, small)) small in
    not_empty (decimal n) n both.1 both.0

-- ---- the words of a geometry say it

starts : (n : ℕ) (rest : List ℕ) → n < 2 ^ 32 → StartsWithNumber (decimal n ++ (codes "," ++ rest)) n rest
starts n rest small = (decimal n, refl, number_back n small)

geometry_said : (g : Geometry) → SaysGeometry (geometry_words g) g
geometry_said g = record {
  numbers = record { data_bytes = g.data_bytes; spare_bytes = g.spare_bytes; pages = g.pages; blocks = g.blocks; sectors = g.sectors };
  spelled = (
    _,
    starts g.data_bytes _ (omega (arith, g.limits.data_size.most)),
    (
      _,
      starts g.spare_bytes _ (omega (arith, g.limits.spare_size.most)),
      (
        _,
        starts g.pages _ (omega (arith, g.limits.page_count.most)),
        (
          _,
          starts g.blocks _ (omega (arith, g.limits.block_count.most)),
          number_back g.sectors (omega (arith, g.limits.sector_count.most)),
        ),
      ),
    ),
  );
  valid = record { data_bytes_is = refl; spare_bytes_is = refl; pages_is = refl; blocks_is = refl; sectors_is = refl };
}

-- ---- the object of a shape

pub shape_told : ShapeToldLaw
shape_told s lost cache share = record {
  version = refl;
  shape = record { cache_is = refl; within = cache; geometry_is = (geometry_words s.geometry, refl, geometry_said s.geometry) };
  later = record { code_is = refl; lost_is = refl; share_is = refl };
  may_wait = share;
  alone = refl;
}
