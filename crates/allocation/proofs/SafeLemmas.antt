-- What is true whatever the die does stays true.
use Rattle.std.proofs.Common.{◌≡◌, ◌≢◌, inl, inr, ℕ, ◌+◌, ◌-◌, ◌<◌, ◌≤◌, min, Bool, true, false, cond, not, ltb, ◌&&◌, ◌||◌, ◌==◌, eqb, List, length}
use Rattle.std.proofs.Common.{get_or, set, Option, Some, None, refl, ap, sym, subst, ◌∙◌, arith, get_or-set_other, get_or-set_same}
use Rattle.std.specs.Prelude.{nat_lt, MatchOption}
use Rattle.std.specs.Bool.{then_some}
use Rattle.std.specs.List.{range_with_len}
use mir.Val.{bool_byte}
use Rattle.std.proofs.lemmas.List.{length-set, get_or_read}
use Rattle.std.proofs.lemmas.Bool.{cases_eq, eqb-true, eq-eqb, ne_eqb, and_parts, and_from, false≢true, ltb-true}
use Rattle.page_layout.proofs.CountLemmas.{bit, count_by-same}
use Rattle.bad_blocks.specs.declared.table.TableRow.{TableRow}
use Rattle.bad_blocks.specs.declared.class.Class.{Class}
use Rattle.bad_blocks.specs.declared.class.Class.TheVariants.{Good, Factory, Grown}
use Rattle.bad_blocks.specs.Table.{is_good, is_good_class, is_good_at, class_at, wear_at, no_table_row, most_wear, retired, erased_once}
use Rattle.allocation.specs.declared.fill.Fill.{Fill}
use Rattle.budget.specs.declared.stream.Stream.{Stream}
use Rattle.budget.specs.declared.stream.Stream.TheVariants.{Data, Meta}
use Rattle.allocation.specs.State.{State, no_fill, fill_at, pointer_at, live_at, open_of, is_open_block, is_open, is_free, is_closed, free_count, IsOpen, AreBlocksSafe}
use Rattle.allocation.specs.Step.{with_open, with_fill, taken, without, erased, with_live, open_without, IsNextBlock, IsLeastWorn, HasNone}
use Rattle.allocation.proofs.CountLemmas.{count_moved, count_within, count_none_in}

-- ---- one block's fill

pub fill_other : (s : State) (b c : ℕ) (f : Fill) → c ≢ b → fill_at (with_fill b f s) c ≡ fill_at s c
fill_other s b c f ne = get_or-set_other s.fills b c f no_fill ne

pub fill_same : (s : State) (b : ℕ) (f : Fill) → b < length s.fills → fill_at (with_fill b f s) b ≡ f
fill_same s b f lt = get_or-set_same s.fills b f no_fill lt

-- live counts alone
pub pointer_live : (s : State) (b live c : ℕ) → b < length s.fills → pointer_at (with_live b live s) c ≡ pointer_at s c
pointer_live s b live c lt = elim (cases_eq c b) [
  | inl is ↦ ap (λ x. pointer_at (with_live b live s) x) is ∙ ap (λ f. f.pointer) (fill_same s b (record { pointer = pointer_at s b; live = live }) lt) ∙ sym (ap (λ x. pointer_at s x) is)
  | inr ne ↦ ap (λ f. f.pointer) (fill_other s b c (record { pointer = pointer_at s b; live = live }) ne)
]

pub safe_live : (free : ℕ) (s : State) (b live : ℕ) → b < s.geometry.blocks → AreBlocksSafe free s → AreBlocksSafe free (with_live b live s)
safe_live free s b live within safe =
    let lt : b < length s.fills = omega (arith, safe.fills_whole) in
    let same = λ (c : ℕ). pointer_live s b live c lt in
    record {
      table_whole = safe.table_whole;
      fills_whole = length-set s.fills b (record { pointer = pointer_at s b; live = live }) ∙ safe.fills_whole;
      pointers = λ c w. rw (same c) (safe.pointers c w);
      free_is = safe.free_is ∙ count_by-same (is_free s) (is_free (with_live b live s)) (range_with_len 0 s.geometry.blocks) (λ c. ap (λ p. is_good_at s.table c && (p == 0)) (sym (same c)));
      opened = λ stream c o. (let old : IsOpen s c = elim stream as (λ t. open_of (with_live b live s) t ≡ Some c → IsOpen s c) [ Data ↦ λ e. safe.opened Data c e | Meta ↦ λ e. safe.opened Meta c e ] o in
          record { within = old.within; good = old.good; begun = rw (same c) old.begun; room = rw (same c) old.room });
      apart = safe.apart;
    }

-- what indexing gives
pub read_is : (s : State) (b : ℕ) (f : Fill) → b < s.geometry.blocks → length s.fills ≡ s.geometry.blocks → f ≡ get_or s.fills b f → f ≡ fill_at s b
read_is s b f within whole is = get_or_read s.fills b f (omega arith) is no_fill

-- the same where the fill was read
pub safe_live_read : (free : ℕ) (s : State) (b live : ℕ) (f : Fill) → b < s.geometry.blocks → f ≡ get_or s.fills b f → AreBlocksSafe free s → AreBlocksSafe free (with_fill b (record { pointer = f.pointer; live = live }) s)
safe_live_read free s b live f within is safe =
    let e : f ≡ fill_at s b = read_is s b f within safe.fills_whole is in
    subst (λ (p : ℕ). AreBlocksSafe free (with_fill b (record { pointer = p; live = live }) s)) (sym (ap (λ (x : Fill). x.pointer) e)) (safe_live free s b live within safe)

-- ---- one block's entry

pub good_erased : (table : List TableRow) (b c : ℕ) → b < length table → is_good_at (erased_once table b) c ≡ is_good_at table c
good_erased table b c lt =
    let new : TableRow = record { class = class_at table b; wear = min (wear_at table b + 1) most_wear } in
    elim (cases_eq c b) [
      | inl is ↦ ap (λ x. is_good_at (erased_once table b) x) is ∙ ap is_good (get_or-set_same table b new no_table_row lt) ∙ sym (ap (λ x. is_good_at table x) is)
      | inr ne ↦ ap is_good (get_or-set_other table b c new no_table_row ne)
    ]

pub good_retired_other : (table : List TableRow) (b c : ℕ) → c ≢ b → is_good_at (retired table b) c ≡ is_good_at table c
good_retired_other table b c ne = ap is_good (get_or-set_other table b c (record { class = Grown; wear = wear_at table b }) no_table_row ne)

-- a block that passes the test is of class good
pub good_class : (table : List TableRow) (b : ℕ) → is_good_at table b ≡ true → class_at table b ≡ Good
good_class table b is = of_class (class_at table b) is
  where
    of_class : (k : Class) → is_good_class k ≡ true → k ≡ Good
    of_class Good e = refl
    of_class Factory e = absurd (false≢true e)
    of_class Grown e = absurd (false≢true e)

pub good_retired : (table : List TableRow) (b : ℕ) → b < length table → is_good_at (retired table b) b ≡ false
good_retired table b lt = ap is_good (get_or-set_same table b (record { class = Grown; wear = wear_at table b }) no_table_row lt)

-- ---- tests

pub not_held : (o : Option ℕ) (b c : ℕ) → is_open_block o b ≡ false → o ≡ Some c → c ≢ b
not_held o b c none is = λ same. false≢true (sym none ∙ ap (λ x. is_open_block x b) is ∙ eq-eqb c b same)

pub record IsParted (s : State) (b : ℕ) : Type 0 where
  pub good : is_good_at s.table b ≡ true
  pub begun : pointer_at s b ≢ 0
  pub not_data : is_open_block s.data_open b ≡ false
  pub not_meta : is_open_block s.meta_open b ≡ false

pub closed_parts : (s : State) (b : ℕ) → is_closed s b ≡ true → IsParted s b
closed_parts s b is =
    let outer = and_parts (is_good_at s.table b && not (pointer_at s b == 0)) (not (is_open s b)) is in
    let inner = and_parts (is_good_at s.table b) (not (pointer_at s b == 0)) outer.0 in
    let shut : is_open s b ≡ false = not_true (is_open s b) outer.1 in
    record {
      good = inner.0;
      begun = λ zero. false≢true (sym (not_true (pointer_at s b == 0) inner.1) ∙ eq-eqb (pointer_at s b) 0 zero);
      not_data = or_first (is_open_block s.data_open b) (is_open_block s.meta_open b) shut;
      not_meta = or_second (is_open_block s.data_open b) (is_open_block s.meta_open b) shut;
    }
  where
    not_true : (x : Bool) → not x ≡ true → x ≡ false
    not_true true e = sym e
    not_true false e = refl

    or_first : (x y : Bool) → (x || y) ≡ false → x ≡ false
    or_first true y e = e
    or_first false y e = refl

    or_second : (x y : Bool) → (x || y) ≡ false → y ≡ false
    or_second true true e = e
    or_second true false e = refl
    or_second false y e = e

pub free_not : (s : State) (b : ℕ) → pointer_at s b ≢ 0 → is_free s b ≡ false
free_not s b ne = ap (λ x. is_good_at s.table b && x) (ne_eqb (pointer_at s b) 0 ne) ∙ and_false (is_good_at s.table b)
  where
    and_false : (x : Bool) → (x && false) ≡ false
    and_false true = refl
    and_false false = refl

pub free_parts : (s : State) (b : ℕ) → is_free s b ≡ true → (is_good_at s.table b ≡ true) × (pointer_at s b ≡ 0)
free_parts s b is = let both = and_parts (is_good_at s.table b) (pointer_at s b == 0) is in (both.0, eqb-true (pointer_at s b) 0 both.1)

-- ---- an erase

pub erased_free : (s : State) (b : ℕ) → b < s.geometry.blocks → length s.fills ≡ s.geometry.blocks → length s.table ≡ s.geometry.blocks → is_closed s b ≡ true → free_count (erased b s) ≡ free_count s + 1
erased_free s b within whole table closed =
    let parts = closed_parts s b closed in
    let in_table : b < length s.table = omega arith in
    let in_fills : b < length s.fills = omega arith in
    let new : Fill = record { pointer = 0; live = live_at s b } in
    let good : is_good_at (erased b s).table b ≡ true = good_erased s.table b b in_table ∙ parts.good in
    let zero_now : pointer_at (erased b s) b ≡ 0 = ap (λ (f : Fill). f.pointer) (get_or-set_same s.fills b new no_fill in_fills) in
    let is_now : is_free (erased b s) b ≡ true = and_from (is_good_at (erased b s).table b) (pointer_at (erased b s) b == 0) good (eq-eqb (pointer_at (erased b s) b) 0 zero_now) in
    let was : is_free s b ≡ false = free_not s b parts.begun in
    let moved = count_moved (is_free s) (is_free (erased b s)) b 0 s.geometry.blocks
    (λ c ne. let p : pointer_at (erased b s) c ≡ pointer_at s c = ap (λ (f : Fill). f.pointer) (get_or-set_other s.fills b c new no_fill ne) in rw
    (good_erased s.table b c in_table, p) refl) (omega arith) (omega arith) in
    let one : bit (is_free (erased b s) b) ≡ 1 = ap bit is_now in
    let none : bit (is_free s b) ≡ 0 = ap bit was in
    omega arith

pub safe_erased : (free : ℕ) (s : State) (b : ℕ) → b < s.geometry.blocks → is_closed s b ≡ true → AreBlocksSafe free s → AreBlocksSafe (free + 1) (erased b s)
safe_erased free s b within closed safe =
    let parts = closed_parts s b closed in
    let in_table : b < length s.table = omega (arith, safe.table_whole) in
    let in_fills : b < length s.fills = omega (arith, safe.fills_whole) in
    let new : Fill = record { pointer = 0; live = live_at s b } in
    let other : (c : ℕ) → c ≢ b → pointer_at (erased b s) c ≡ pointer_at s c = λ c ne. ap (λ (f : Fill). f.pointer) (get_or-set_other s.fills b c new no_fill ne) in
    let kept : (c : ℕ) → c ≢ b → IsOpen s c → IsOpen (erased b s) c = λ c ne old. record {
      within = old.within;
      good = good_erased s.table b c in_table ∙ old.good;
      begun = rw (other c ne) old.begun;
      room = rw (other c ne) old.room;
    } in
    record {
      table_whole = length-set s.table b (record { class = class_at s.table b; wear = min (wear_at s.table b + 1) most_wear }) ∙ safe.table_whole;
      fills_whole = length-set s.fills b new ∙ safe.fills_whole;
      pointers = λ c w. elim (cases_eq c b) [
        | inl is ↦ (let zero_now : pointer_at (erased b s) c ≡ 0 = ap (λ x. pointer_at (erased b s) x) is ∙ ap (λ (f : Fill). f.pointer) (get_or-set_same s.fills b new no_fill in_fills) in omega arith)
        | inr ne ↦ rw (other c ne) (safe.pointers c w)
      ];
      free_is = omega (arith, safe.free_is, erased_free s b within safe.fills_whole safe.table_whole closed);
      opened = λ stream. elim stream as (λ t. (c : ℕ) → open_of (erased b s) t ≡ Some c → IsOpen (erased b s) c) [
        | Data ↦ λ c e. kept c (not_held s.data_open b c parts.not_data e) (safe.opened Data c e)
        | Meta ↦ λ c e. kept c (not_held s.meta_open b c parts.not_meta e) (safe.opened Meta c e)
      ];
      apart = safe.apart;
    }

pub safe_erased_read : (free : ℕ) (s : State) (b : ℕ) (f : Fill) (table : List TableRow) → b < s.geometry.blocks → is_closed s b ≡ true
    → f ≡ get_or s.fills b f → table ≡ erased_once s.table b → AreBlocksSafe free s
    → AreBlocksSafe (free + 1)
    (record {
      geometry = s.geometry;
      table = table;
      fills = set s.fills b (record { pointer = 0; live = f.live });
      data_open = s.data_open;
      meta_open = s.meta_open;
    })
safe_erased_read free s b f table within closed is counted safe =
    let e : live_at s b ≡ f.live = sym (ap (λ (x : Fill). x.live) (read_is s b f within safe.fills_whole is)) in
    subst (λ (t : List TableRow). AreBlocksSafe (free + 1) (record { geometry = s.geometry; table = t; fills = set s.fills b (record { pointer = 0; live = f.live }); data_open = s.data_open; meta_open = s.meta_open })) (sym counted)
    (subst (λ (l : ℕ). AreBlocksSafe (free + 1) (record { geometry = s.geometry; table = erased_once s.table b; fills = set s.fills b (record { pointer = 0; live = l }); data_open = s.data_open; meta_open = s.meta_open })) e (safe_erased free s b within closed safe))

pub free_fits : (free : ℕ) (s : State) → AreBlocksSafe free s → free ≤ s.geometry.blocks
free_fits free s safe = omega (arith, safe.free_is, count_within (is_free s) 0 s.geometry.blocks)

-- ---- a block that failed

pub free_retired : (s : State) (b c : ℕ) → c ≢ b → is_free (without b s) c ≡ is_free s c
free_retired s b c ne = ap (λ x. x && (pointer_at s c == 0)) (good_retired_other s.table b c ne)

pub without_free : (s : State) (b : ℕ) → b < s.geometry.blocks → length s.table ≡ s.geometry.blocks → free_count (without b s) + bit (is_free s b) ≡ free_count s
without_free s b within table =
    let bad : is_free (without b s) b ≡ false = ap (λ x. x && (pointer_at s b == 0)) (good_retired s.table b (omega arith)) in
    let none : bit (is_free (without b s) b) ≡ 0 = ap bit bad in
    let moved = count_moved (is_free s) (is_free (without b s)) b 0 s.geometry.blocks (free_retired s b) (omega arith) (omega arith) in
    omega arith

dropped_kept : (o : Option ℕ) (b c : ℕ) → open_without o b ≡ Some c → (o ≡ Some c) × (c ≢ b)
dropped_kept None b c e = cc
dropped_kept (Some x) b c e = elim (eqb x b) as (λ v. eqb x b ≡ v → cond v None (Some x) ≡ Some c → (Some x ≡ Some c) × (c ≢ b)) [
  | true ↦ λ is f. cc
  | false ↦ λ is f. (f, λ same. (let xc : x ≡ c = cc in let t : eqb x b ≡ true = eq-eqb x b (xc ∙ same) in false≢true (sym is ∙ t)))
] refl e

pub safe_without : (free : ℕ) (s : State) (b : ℕ) → b < s.geometry.blocks → AreBlocksSafe free s → AreBlocksSafe (free - bit (is_free s b)) (without b s)
safe_without free s b within safe =
    let kept : (c : ℕ) → c ≢ b → IsOpen s c → IsOpen (without b s) c = λ c ne old. record {
      within = old.within;
      good = good_retired_other s.table b c ne ∙ old.good;
      begun = old.begun;
      room = old.room;
    } in
    record {
      table_whole = length-set s.table b (record { class = Grown; wear = wear_at s.table b }) ∙ safe.table_whole;
      fills_whole = safe.fills_whole;
      pointers = safe.pointers;
      free_is = omega (arith, safe.free_is, without_free s b within safe.table_whole);
      opened = λ stream. elim stream as (λ t. (c : ℕ) → open_of (without b s) t ≡ Some c → IsOpen (without b s) c) [
        | Data ↦ λ c e. (let was = dropped_kept s.data_open b c e in kept c was.1 (safe.opened Data c was.0))
        | Meta ↦ λ c e. (let was = dropped_kept s.meta_open b c e in kept c was.1 (safe.opened Meta c was.0))
      ];
      apart = λ c d m. safe.apart c (dropped_kept s.data_open b c d).0 (dropped_kept s.meta_open b c m).0;
    }

pub safe_without_read : (free n : ℕ) (s : State) (b : ℕ) (table : List TableRow) (data_open meta_open : Option ℕ) → b < s.geometry.blocks
    → n ≡ bit (is_free s b) → table ≡ retired s.table b → data_open ≡ open_without s.data_open b → meta_open ≡ open_without s.meta_open b → AreBlocksSafe free s
    → AreBlocksSafe (free - n) (record { geometry = s.geometry; table = table; fills = s.fills; data_open = data_open; meta_open = meta_open })
safe_without_read free n s b table data_open meta_open within is counted d m safe =
    subst (λ (x : ℕ). AreBlocksSafe (free - x) (record { geometry = s.geometry; table = table; fills = s.fills; data_open = data_open; meta_open = meta_open })) (sym is)
    (subst (λ (x : List TableRow). AreBlocksSafe (free - bit (is_free s b)) (record { geometry = s.geometry; table = x; fills = s.fills; data_open = data_open; meta_open = meta_open })) (sym counted)
    (subst (λ (x : Option ℕ). AreBlocksSafe (free - bit (is_free s b)) (record { geometry = s.geometry; table = retired s.table b; fills = s.fills; data_open = x; meta_open = meta_open })) (sym d)
    (subst (λ (x : Option ℕ). AreBlocksSafe (free - bit (is_free s b)) (record { geometry = s.geometry; table = retired s.table b; fills = s.fills; data_open = open_without s.data_open b; meta_open = x })) (sym m)
    (safe_without free s b within safe))))

pub free_has : (free : ℕ) (s : State) (b : ℕ) → b < s.geometry.blocks → AreBlocksSafe free s → bit (is_free s b) ≤ free
free_has free s b within safe = omega (arith, safe.free_is, without_free s b within safe.table_whole)

pub byte_is : (b : Bool) → bool_byte b ≡ bit b
byte_is true = refl
byte_is false = refl

-- ---- a row is taken

pub no_fill_after : (s : State) (b n live : ℕ) → b < s.geometry.blocks → length s.fills ≡ s.geometry.blocks → is_free (with_fill b (record { pointer = n + 1; live = live }) s) b ≡ false
no_fill_after s b n live within whole =
    let f : Fill = record { pointer = n + 1; live = live } in
    let now : pointer_at (with_fill b f s) b ≡ n + 1 = ap (λ (x : Fill). x.pointer) (fill_same s b f (omega arith)) in
    free_not (with_fill b f s) b (λ zero. absurd (omega (arith, now)))

-- where the block is no longer free, it is not counted any more
pub taken_free : (s : State) (b live : ℕ) → b < s.geometry.blocks → is_good_at s.table b ≡ true → length s.fills ≡ s.geometry.blocks → free_count (with_fill b (record { pointer = pointer_at s b + 1; live = live }) s) + bit (pointer_at s b == 0) ≡ free_count s
taken_free s b live within good whole =
    let f : Fill = record { pointer = pointer_at s b + 1; live = live } in
    let now : bit (is_free (with_fill b f s) b) ≡ 0 = ap bit (no_fill_after s b (pointer_at s b) live within whole) in
    let was : bit (is_free s b) ≡ bit (pointer_at s b == 0) = ap (λ (x : Bool). bit (x && (pointer_at s b == 0))) good in
    let moved = count_moved (is_free s) (is_free (with_fill b f s)) b 0 s.geometry.blocks (λ c ne. ap (λ (x : Fill). is_good_at s.table c && (x.pointer == 0)) (fill_other s b c f ne)) (omega arith) (omega arith) in
    omega arith

-- what is open after the next page
pub opened_next : (next pages b c : ℕ) → (then_some (nat_lt next pages) b) ≡ Some c → (next < pages) × (b ≡ c)
opened_next next pages b c e = elim (ltb next pages) as (λ v. ltb next pages ≡ v → then_some v b ≡ Some c → (next < pages) × (b ≡ c)) [
  | true ↦ λ is f. (ltb-true next pages is, cc)
  | false ↦ λ is f. absurd cc
] refl e

-- a block that another stream has open isn't the one
pub not_of_other : (free : ℕ) (s : State) (stream other : Stream) (b c : ℕ) → AreBlocksSafe free s → IsNextBlock s stream b → ((d : ℕ) → open_of s stream ≡ Some d → open_of s other ≡ Some d → ⊥) → open_of s other ≡ Some c → c ≢ b
not_of_other free s stream other b c safe next apart e = λ same. elim next.from [
  | inl o ↦ apart b o (e ∙ ap Some same)
  | inr o ↦
      let zero : pointer_at s b ≡ 0 = (free_parts s b o.1.free).1 in
      let begun : 0 < pointer_at s c = (safe.opened other c e).begun in
      let z : pointer_at s c ≡ 0 = ap (λ x. pointer_at s x) same ∙ zero in
      absurd (omega arith)
]

-- an open block that the row isn't taken of
pub open_other : (s : State) (b c : ℕ) (f : Fill) → c ≢ b → IsOpen s c → IsOpen (with_fill b f s) c
open_other s b c f ne old =
    let same : pointer_at (with_fill b f s) c ≡ pointer_at s c = ap (λ (x : Fill). x.pointer) (fill_other s b c f ne) in
    record { within = old.within; good = old.good; begun = rw same old.begun; room = rw same old.room }

-- the open block that the row is taken of
pub open_here : (s : State) (b c n live : ℕ) → b < length s.fills → b < s.geometry.blocks → is_good_at s.table b ≡ true → (n + 1 < s.geometry.pages) × (b ≡ c) → IsOpen (with_fill b (record { pointer = n + 1; live = live }) s) c
open_here s b c n live lt within good is =
    let f : Fill = record { pointer = n + 1; live = live } in
    let now : pointer_at (with_fill b f s) b ≡ n + 1 = ap (λ (x : Fill). x.pointer) (fill_same s b f lt) in
    subst (λ x. IsOpen (with_fill b f s) x) is.1 (record { within = within; good = good; begun = rw now (omega arith); room = rw now is.0 })

safe_opens : (free : ℕ) (s : State) (b live : ℕ) (data_open meta_open : Option ℕ) → AreBlocksSafe free s → b < s.geometry.blocks → is_good_at s.table b ≡ true → pointer_at s b < s.geometry.pages →
    ((c : ℕ) → data_open ≡ Some c → IsOpen (with_fill b (record { pointer = pointer_at s b + 1; live = live }) s) c) →
    ((c : ℕ) → meta_open ≡ Some c → IsOpen (with_fill b (record { pointer = pointer_at s b + 1; live = live }) s) c) →
    ((c : ℕ) → data_open ≡ Some c → meta_open ≡ Some c → ⊥) →
    AreBlocksSafe (free - bit (pointer_at s b == 0)) (record { geometry = s.geometry; table = s.table; fills = set s.fills b (record { pointer = pointer_at s b + 1; live = live }); data_open = data_open; meta_open = meta_open })
safe_opens free s b live data_open meta_open safe within good room d m apart =
    let f : Fill = record { pointer = pointer_at s b + 1; live = live } in
    let new : State = record { geometry = s.geometry; table = s.table; fills = set s.fills b f; data_open = data_open; meta_open = meta_open } in
    record {
      table_whole = safe.table_whole;
      fills_whole = length-set s.fills b f ∙ safe.fills_whole;
      pointers = λ c w. elim (cases_eq c b) [
        | inl is ↦ (let now : pointer_at (with_fill b f s) c ≡ pointer_at s b + 1 = ap (λ x. pointer_at (with_fill b f s) x) is ∙ ap (λ (x : Fill). x.pointer) (fill_same s b f (omega (arith, safe.fills_whole))) in omega arith)
        | inr ne ↦ (let same : pointer_at (with_fill b f s) c ≡ pointer_at s c = ap (λ (x : Fill). x.pointer) (fill_other s b c f ne) in omega (arith, safe.pointers c w))
      ];
      free_is = omega (arith, safe.free_is, taken_free s b live within good safe.fills_whole);
      opened = λ stream. elim stream as (λ t. (c : ℕ) → open_of new t ≡ Some c → IsOpen new c) [
        | Data ↦ λ c e. (let o = d c e in record { within = o.within; good = o.good; begun = o.begun; room = o.room })
        | Meta ↦ λ c e. (let o = m c e in record { within = o.within; good = o.good; begun = o.begun; room = o.room })
      ];
      apart = apart;
    }

pub safe_taken : (free : ℕ) (s : State) (stream : Stream) (b : ℕ) → IsNextBlock s stream b → AreBlocksSafe free s → AreBlocksSafe (free - bit (pointer_at s b == 0)) (taken stream b s)
safe_taken free s Data b next safe =
    let f : Fill = record { pointer = pointer_at s b + 1; live = live_at s b } in
    let lt : b < length s.fills = omega (arith, safe.fills_whole, next.within) in
    let ne : (c : ℕ) → s.meta_open ≡ Some c → c ≢ b = λ c e. not_of_other free s Data Meta b c safe next (λ d. safe.apart d) e in
    safe_opens free s b (live_at s b) (then_some (nat_lt (pointer_at s b + 1) s.geometry.pages) b) s.meta_open safe next.within next.good next.room
    (λ c e. open_here s b c (pointer_at s b) (live_at s b) lt next.within next.good (opened_next (pointer_at s b + 1) s.geometry.pages b c e))
    (λ c e. open_other s b c f (ne c e) (safe.opened Meta c e))
    (λ c d m. ne c m (sym (opened_next (pointer_at s b + 1) s.geometry.pages b c d).1))
safe_taken free s Meta b next safe =
    let f : Fill = record { pointer = pointer_at s b + 1; live = live_at s b } in
    let lt : b < length s.fills = omega (arith, safe.fills_whole, next.within) in
    let ne : (c : ℕ) → s.data_open ≡ Some c → c ≢ b = λ c e. not_of_other free s Meta Data b c safe next (λ d m o. safe.apart d o m) e in
    safe_opens free s b (live_at s b) s.data_open (then_some (nat_lt (pointer_at s b + 1) s.geometry.pages) b) safe next.within next.good next.room
    (λ c e. open_other s b c f (ne c e) (safe.opened Data c e))
    (λ c e. open_here s b c (pointer_at s b) (live_at s b) lt next.within next.good (opened_next (pointer_at s b + 1) s.geometry.pages b c e))
    (λ c d m. ne c d (sym (opened_next (pointer_at s b + 1) s.geometry.pages b c m).1))

pub safe_taken_read : (free n : ℕ) (s : State) (stream : Stream) (b : ℕ) (f : Fill) (opened : Option ℕ) → IsNextBlock s stream b
    → f ≡ get_or s.fills b f → n ≡ bit (f.pointer == 0) → opened ≡ (then_some (nat_lt (f.pointer + 1) s.geometry.pages) b) → AreBlocksSafe free s
    → AreBlocksSafe (free - n) (with_open stream opened (with_fill b (record { pointer = f.pointer + 1; live = f.live }) s))
safe_taken_read free n s stream b f opened next is one now safe =
    let e : f ≡ fill_at s b = read_is s b f next.within safe.fills_whole is in
    subst (λ (k : ℕ). AreBlocksSafe (free - k) (with_open stream opened (with_fill b (record { pointer = f.pointer + 1; live = f.live }) s))) (sym one)
    (subst (λ (o : Option ℕ). AreBlocksSafe (free - bit (f.pointer == 0)) (with_open stream o (with_fill b (record { pointer = f.pointer + 1; live = f.live }) s))) (sym now)
    (subst (λ (x : Fill). AreBlocksSafe (free - bit (x.pointer == 0)) (with_open stream (then_some (nat_lt (x.pointer + 1) s.geometry.pages) b) (with_fill b (record { pointer = x.pointer + 1; live = x.live }) s))) (sym e)
    (safe_taken free s stream b next safe)))

-- a free block is counted
pub taken_has : (free : ℕ) (s : State) (stream : Stream) (b : ℕ) (f : Fill) → IsNextBlock s stream b → f ≡ get_or s.fills b f → AreBlocksSafe free s → bit (f.pointer == 0) ≤ free
taken_has free s stream b f next is safe =
    let e : f ≡ fill_at s b = read_is s b f next.within safe.fills_whole is in
    let same : bit (f.pointer == 0) ≡ bit (pointer_at s b == 0) = ap (λ (x : Fill). bit (x.pointer == 0)) e in
    omega (arith, same, safe.free_is, taken_free s b (live_at s b) next.within next.good safe.fills_whole)

pub next_open : (free : ℕ) (s : State) (stream : Stream) (b : ℕ) → AreBlocksSafe free s → open_of s stream ≡ Some b → IsNextBlock s stream b
next_open free s stream b safe is = let o = safe.opened stream b is in record { within = o.within; good = o.good; room = o.room; from = inl is }

pub next_found : (free : ℕ) (s : State) (stream : Stream) (o : Option ℕ) → AreBlocksSafe free s → 0 < s.geometry.pages → open_of s stream ≡ None
    → MatchOption o ((b : ℕ) → b < s.geometry.blocks → is_free s b ≡ false) (IsLeastWorn s s.geometry.blocks)
    → MatchOption o (HasNone s stream) (IsNextBlock s stream)
next_found free s stream None safe pages shut none = record { none_open = shut; none_free = count_none_in (is_free s) 0 s.geometry.blocks (λ b from below. none b (omega arith)) }
next_found free s stream (Some b) safe pages shut least =
    let parts = free_parts s b least.free in
    record { within = least.within; good = parts.0; room = omega (arith, parts.1); from = inr (shut, least) }
