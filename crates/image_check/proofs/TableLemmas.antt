-- Keeping the bytes of the newest table pages.
use Rattle.std.proofs.Common.{◌≡◌, ◌≢◌, ℕ, suc, ◌+◌, ◌-◌, ◌*◌, ◌<◌, ◌≤◌, true, false, cond, ltb, List, length, get_or, Option, Some, None, sym, ap}
use Rattle.std.proofs.Common.{subst, ◌∙◌, arith, ◌⊎◌, inl, inr, slice_get}
use Rattle.std.proofs.lemmas.Bool.{cases_order}
use Rattle.std.proofs.lemmas.List.{places}
use Rattle.std.proofs.Math.Nat.{mul-le-mul_right}
use borrow.Rule.Slice.PartMut.{put_mid}
use Rattle.page_layout.specs.declared.geometry.Geometry.{Geometry}
use Rattle.page_layout.specs.declared.record.Record.{Record}
use Rattle.page_layout.specs.declared.record.Key.{Key}
use Rattle.page_layout.specs.declared.record.Key.TheVariants.{Table}
use Rattle.page_layout.specs.declared.newest.Latest.{Latest}
use Rattle.page_layout.specs.declared.newest.Latest.TheVariants.{Never, Once, Tied}
use Rattle.page_layout.specs.Geometry.{table_pages}
use Rattle.page_layout.specs.Greatest.{step, place_of}
use Rattle.page_layout.specs.Page.{Page, Image, body_at}
use Rattle.page_layout.specs.Key.{key_of}
use Rattle.page_layout.specs.Array.{marks}
use Rattle.page_layout.specs.Sound.{record_of}
use Rattle.page_layout.specs.Newest.{latest_below, sequence_at}
use Rattle.page_layout.proofs.NewestLemmas.{sequence_at-none, sequence_at-other}
use Rattle.page_layout.proofs.ArrayLemmas.{mark-page, body_page}
use Rattle.image_check.specs.Survey.{HasTableBytes}
use Rattle.image_check.proofs.SurveyLemmas.{latest_more, latest_other, latest_start}

-- after one place more the greatest is that place, or the one that it was
pub step_place : (l : Latest) (row q : ℕ) (o : Option ℕ) → place_of (step l row o) ≡ Some q → (q ≡ row) ⊎ (place_of l ≡ Some q)
step_place l row q None e = inr e
step_place Never row q (Some s) e = inl (let x : row ≡ q = cc in sym x)
step_place (Once p t) row q (Some s) e =
    (elim (ltb t s) as (λ b. place_of (cond b (Once row s) (cond (ltb s t) (Once p t) (Tied p row t))) ≡ Some q → (q ≡ row) ⊎ (Some p ≡ Some q)) [
      | true ↦ λ d. inl (let x : row ≡ q = cc in sym x)
      | false ↦ elim (ltb s t) as (λ b. place_of (cond b (Once p t) (Tied p row t)) ≡ Some q → (q ≡ row) ⊎ (Some p ≡ Some q)) [
        | true ↦ λ d. inr d
        | false ↦ λ d. absurd cc
      ]
    ]) e
step_place (Tied a b t) row q (Some s) e =
    (elim (ltb t s) as (λ b'. place_of (cond b' (Once row s) (Tied a b t)) ≡ Some q → (q ≡ row) ⊎ (None ≡ Some q)) [
      | true ↦ λ d. inl (let x : row ≡ q = cc in sym x)
      | false ↦ λ d. absurd cc
    ]) e

-- the page isn't of table page u
stays_other : (g : Geometry) (image : Image) (row u q i : ℕ) (bytes : List ℕ) → HasTableBytes g image row bytes → sequence_at (marks image) (Table u) row ≡ None → u < table_pages g → i < g.data_bytes → place_of (latest_below (marks image) (Table u) (row + 1)) ≡ Some q
    → get_or bytes (u * g.data_bytes + i) 0 ≡ get_or (body_at image q) i 0
stays_other g image row u q i bytes h none ku ki e = h.at u q i ku ki (ap place_of (sym (latest_other (marks image) (Table u) row none)) ∙ e)

-- the page isn't sound, or it is of another kind or out of range
pub table_stays : (g : Geometry) (image : Image) (row : ℕ) (bytes : List ℕ) → HasTableBytes g image row bytes → ((u : ℕ) → u < table_pages g → sequence_at (marks image) (Table u) row ≡ None) → HasTableBytes g image (row + 1) bytes
table_stays g image row bytes h none = record { size = h.size; at = λ u q i ku ki e. stays_other g image row u q i bytes h (none u ku) ku ki e }

-- the page is of table page v, and isn't its newest
pub table_old : (g : Geometry) (image : Image) (row v : ℕ) (bytes : List ℕ) → HasTableBytes g image row bytes
    → ((u : ℕ) → u ≢ v → sequence_at (marks image) (Table u) row ≡ None) → place_of (latest_below (marks image) (Table v) (row + 1)) ≢ Some row
    → HasTableBytes g image (row + 1) bytes
table_old g image row v bytes h none older = record {
  size = h.size;
  at = λ u q i ku ki e. elim (cases_order u v) [
    | inl same ↦
        let at_v : place_of (latest_below (marks image) (Table v) (row + 1)) ≡ Some q = subst (λ (x : ℕ). place_of (latest_below (marks image) (Table x) (row + 1)) ≡ Some q) same e in
        elim (step_place (latest_below (marks image) (Table v) row) row q (sequence_at (marks image) (Table v) row) (ap place_of (sym (latest_more (marks image) (Table v) row)) ∙ at_v)) [
          | inl is_row ↦ absurd (older (at_v ∙ ap Some is_row))
          | inr before ↦ h.at u q i ku ki (subst (λ (x : ℕ). place_of (latest_below (marks image) (Table x) row) ≡ Some q) (sym same) before)
        ]
    | inr (inl below) ↦ stays_other g image row u q i bytes h (none u (λ x. absurd (omega arith))) ku ki e
    | inr (inr above) ↦ stays_other g image row u q i bytes h (none u (λ x. absurd (omega arith))) ku ki e
  ];
}

outside : (bytes w : List ℕ) (a n j : ℕ) → length w ≡ n → a + n ≤ length bytes → (j < a) ⊎ (a + n ≤ j) → get_or (put_mid a (a + n - a) bytes w) j 0 ≡ get_or bytes j 0
outside bytes w a n j lw lb (inl below) = grind (arith, places)
outside bytes w a n j lw lb (inr above) = grind (arith, places)

inside : (bytes w : List ℕ) (a n i : ℕ) → length w ≡ n → a + n ≤ length bytes → i < n → get_or (put_mid a (a + n - a) bytes w) (a + i) 0 ≡ get_or w i 0
inside bytes w a n i lw lb l = grind (arith, places)

length_mid : (bytes w : List ℕ) (a n : ℕ) → length w ≡ n → a + n ≤ length bytes → length (put_mid a (a + n - a) bytes w) ≡ length bytes
length_mid bytes w a n lw lb = grind (arith, places)

-- the page is the newest of table page v
pub table_new : (g : Geometry) (image : Image) (row v : ℕ) (bytes w : List ℕ) (p : Page) → HasTableBytes g image row bytes → v < table_pages g
    → ((u : ℕ) → u ≢ v → sequence_at (marks image) (Table u) row ≡ None) → place_of (latest_below (marks image) (Table v) (row + 1)) ≡ Some row
    → slice_get image row ≡ Some p → w ≡ p.body → length w ≡ g.data_bytes → HasTableBytes g image (row + 1) (put_mid (v * g.data_bytes) (v * g.data_bytes + g.data_bytes - v * g.data_bytes) bytes w)
table_new g image row v bytes w p h kv none newest is_page copied size =
    let a = v * g.data_bytes in
    let room : suc v * g.data_bytes ≤ table_pages g * g.data_bytes = mul-le-mul_right g.data_bytes kv in
    let one : suc v * g.data_bytes ≡ a + g.data_bytes = omega arith in
    let fits : a + g.data_bytes ≤ length bytes = omega (arith, h.size) in
    record {
      size = length_mid bytes w a g.data_bytes size fits ∙ h.size;
      at = λ u q i ku ki e. elim (cases_order u v) [
        | inl same ↦
            let q_row : row ≡ q = let both : Some row ≡ Some q = sym newest ∙ subst (λ (x : ℕ). place_of (latest_below (marks image) (Table x) (row + 1)) ≡ Some q) same e in cc in
            let body : p.body ≡ body_at image q = sym (body_page image row p is_page) ∙ ap (body_at image) q_row in
            ap (λ (x : ℕ). get_or (put_mid a (a + g.data_bytes - a) bytes w) (x * g.data_bytes + i) 0) same ∙ inside bytes w a g.data_bytes i size fits ki ∙ ap (λ (x : List ℕ). get_or x i 0) (copied ∙ body)
        | inr (inl below) ↦
            let far : suc u * g.data_bytes ≤ a = mul-le-mul_right g.data_bytes below in
            let more : suc u * g.data_bytes ≡ u * g.data_bytes + g.data_bytes = omega arith in
            outside bytes w a g.data_bytes (u * g.data_bytes + i) size fits (inl (omega arith)) ∙ stays_other g image row u q i bytes h (none u (λ x. absurd (omega arith))) ku ki e
        | inr (inr above) ↦
            let far : suc v * g.data_bytes ≤ u * g.data_bytes = mul-le-mul_right g.data_bytes above in
            outside bytes w a g.data_bytes (u * g.data_bytes + i) size fits (inr (omega arith)) ∙ stays_other g image row u q i bytes h (none u (λ x. absurd (omega arith))) ku ki e
      ];
    }

-- ---- what the record of the page says of other table pages

pub none_unsound : (image : Image) (row : ℕ) (p : Page) → slice_get image row ≡ Some p → None ≡ record_of p → (u : ℕ) → sequence_at (marks image) (Table u) row ≡ None
none_unsound image row p is e u = sequence_at-none (marks image) (Table u) row (mark-page image row p is ∙ sym e)

pub none_other : (image : Image) (row : ℕ) (p : Page) (r : Record) (k : Key) → slice_get image row ≡ Some p → Some r ≡ record_of p → k ≡ key_of r → (u : ℕ) → k ≢ Table u → sequence_at (marks image) (Table u) row ≡ None
none_other image row p r k is e same u ne = sequence_at-other (marks image) (Table u) row r (mark-page image row p is ∙ sym e) (λ x. ne (same ∙ x))

table_same : (u v : ℕ) → Table u ≡ Table v → u ≡ v
table_same u v e = cc

pub none_beside : (image : Image) (row : ℕ) (p : Page) (r : Record) (k : Key) (v : ℕ) → slice_get image row ≡ Some p → Some r ≡ record_of p → k ≡ key_of r → k ≡ Table v → (u : ℕ) → u ≢ v → sequence_at (marks image) (Table u) row ≡ None
none_beside image row p r k v is e same is_v u ne = none_other image row p r k is e same u (λ x. ne (table_same u v (sym x ∙ is_v)))

pub tables_start : (g : Geometry) (image : Image) (bytes : List ℕ) → length bytes ≡ table_pages g * g.data_bytes → HasTableBytes g image 0 bytes
tables_start g image bytes size = record {
  size = size;
  at = λ u q i ku ki e. absurd (let clash : None ≡ Some q = ap place_of (sym (latest_start (marks image) (Table u))) ∙ e in cc);
}
