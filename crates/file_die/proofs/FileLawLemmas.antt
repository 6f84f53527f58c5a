-- What bytes over others are, what a file may make of a call, and the rows of a file.
use Rattle.std.proofs.Common.{◌≡◌, ◌∙◌, ◌<◌, ◌≤◌, ◌+◌, ◌-◌, ◌*◌, ap, arith, inl, inr, refl, sym, subst, ℕ, List, length, length-take, take}
use Rattle.std.specs.Prelude.{slice_get, IfOk, Result, Ok, Err}
use Rattle.std.proofs.lemmas.Bool.{cases_lt}
use Rattle.std.proofs.lemmas.List.{ext_get_or}
use Rattle.page_layout.specs.Geometry.{row_count, page_bytes}
use Rattle.page_layout.specs.Flash.{no_page}
use Rattle.page_layout.specs.Raw.{raw_image}
use Rattle.page_layout.proofs.RawLemmas.{length-raw_image}
use Rattle.onfi_cycles.specs.Cycles.{page_of}
use Rattle.nand_die.proofs.PagesLemmas.{page_read}
use Rattle.file_die.specs.declared.bytes.ByteFault.{ByteFault}
use Rattle.file_die.specs.Bytes.{AreAlike, Mixes, over}
use Rattle.file_die.specs.Rows.{read_rows}
use Rattle.file_die.specs.FileLaws.{FailedSyncLaw, OverLaw, PartWriteLaw, RawLaw}
use Rattle.file_die.proofs.BytesLemmas.{get_take, over_before, over_within, over_after}
use Rattle.file_die.proofs.RowLemmas.{rows_length, row_is}

pub over_law : OverLaw
over_law at given xs l = record {
  before = λ i lt. over_before at given xs i l lt;
  within = λ i lt. over_within at given xs i l lt;
  behind = λ i le. over_after at given xs i l le;
}

-- the first of the bytes stand as all of them would
part_front : (at n : ℕ) (given xs : List ℕ) (i : ℕ) → at ≤ length xs → n ≤ length given → i < at + n → slice_get (over at (take n given) xs) i ≡ slice_get (over at given xs) i
part_front at n given xs i l m lt = elim (cases_lt i at) [
  | inl low ↦ over_before at (take n given) xs i l low ∙ sym (over_before at given xs i l low)
  | inr ge ↦
      let j : ℕ = i - at in
      let e : i ≡ at + j = omega (arith, ge) in
      ap (slice_get (over at (take n given) xs)) e
      ∙ (over_within at (take n given) xs j l (omega (arith, length-take n given, m, lt, ge))
      ∙ (get_take n given j (omega (arith, lt, ge))
      ∙ (sym (over_within at given xs j l (omega (arith, lt, ge, m))) ∙ ap (slice_get (over at given xs)) (sym e))))
]

part_mixes : (at n : ℕ) (given xs : List ℕ) → at ≤ length xs → n ≤ length given → Mixes xs (over at given xs) (over at (take n given) xs)
part_mixes at n given xs l m i = elim (cases_lt i (at + n)) [
  | inl lt ↦ inr (part_front at n given xs i l m lt)
  | inr ge ↦ inl (over_after at (take n given) xs i l (omega (arith, length-take n given, m, ge)))
]

part_moved : (at n : ℕ) (given xs left : List ℕ) (answer : Result ℕ ByteFault) → at ≤ length xs → n ≤ length given → IfOk answer (λ moved. moved ≡ n) → left ≡ over at (take n given) xs → IfOk answer (λ k. AreAlike (at + k) left (over at given xs))
part_moved at n given xs left (Err why) l m e is = tt
part_moved at n given xs left (Ok k) l m e is = λ i lt. ap (λ (zs : List ℕ). slice_get zs i) is ∙ part_front at n given xs i l m (omega (arith, lt, e))

pub part_write_law : PartWriteLaw
part_write_law s t at n given answer l m moved is durable syncs = record {
  mixes = subst (λ (left : List ℕ). Mixes s.bytes (over at given s.bytes) left) (sym is) (part_mixes at n given s.bytes l m);
  moved = part_moved at n given s.bytes t.bytes answer l m moved is;
  lasts = λ i. elim durable [ inl e ↦ inl (ap (λ (zs : List ℕ). slice_get zs i) e) | inr e ↦ inr (inr (ap (λ (zs : List ℕ). slice_get zs i) e)) ];
  syncs = syncs;
}

pub failed_sync_law : FailedSyncLaw
failed_sync_law s t is durable syncs = record {
  same = is;
  synced = λ done. (let no : ⊥ = cc in absurd no);
  lasts = λ i. elim durable [ inl e ↦ inl (ap (λ (zs : List ℕ). slice_get zs i) e) | inr e ↦ inr (inl (ap (λ (zs : List ℕ). slice_get zs i) e)) ];
  syncs = syncs;
}

pub raw_law : RawLaw
raw_law g bytes =
    let n : ℕ = row_count g in
    let z : ℕ = page_bytes g in
    ext_get_or no_page (read_rows (page_of g) z n bytes) (raw_image g bytes) (rows_length (page_of g) z n bytes ∙ sym (length-raw_image g bytes))
    (λ row small. let lt : row < n = subst (λ k. row < k) (rows_length (page_of g) z n bytes) small in
    row_is (page_of g) z n row bytes lt ∙ sym (page_read g row (row * z) bytes lt refl))
