-- Reading the words of a table page for the rows of a table.
use Rattle.std.proofs.Common.{◌≡◌, ◌≢◌, ℕ, zero, suc, ◌+◌, ◌*◌, ◌%◌, ◌<◌, ◌≤◌, true, ltb, List, [], ◌∷◌, length, set, length-set, All, Some, refl}
use Rattle.std.proofs.Common.{sym, ap, subst, ◌∙◌, inl, inr, arith, slice_get}
use Rattle.std.proofs.lemmas.List.Elements.{All-set}
use Rattle.std.proofs.lemmas.Bool.{cases_order, lt-ltb, le-ltb, eqb-true}
use Rattle.std.proofs.lemmas.Option.{slice_get_past}
use Rattle.page_layout.specs.Word.{word_at}
use Rattle.bad_blocks.specs.declared.table.TableRow.{TableRow}
use Rattle.bad_blocks.specs.Table.{HasFittingWear}
use Rattle.bad_blocks.specs.TablePage.{word_of, table_word, is_right, padding, IsWellFormed, KeepsOthers}

pub slice_get-set_same : {X : Type 0} (xs : List X) (i : ℕ) (x : X) → i < length xs → slice_get (set xs i x) i ≡ Some x
slice_get-set_same [] i x l = absurd (omega arith)
slice_get-set_same (y ∷ xs) zero x l = refl
slice_get-set_same (y ∷ xs) (suc i) x l = slice_get-set_same xs i x (omega arith)

pub slice_get-set_other : {X : Type 0} (xs : List X) (i j : ℕ) (x : X) → j ≢ i → slice_get (set xs i x) j ≡ slice_get xs j
slice_get-set_other [] i j x ne = refl
slice_get-set_other (y ∷ xs) zero zero x ne = absurd (ne refl)
slice_get-set_other (y ∷ xs) zero (suc j) x ne = refl
slice_get-set_other (y ∷ xs) (suc i) zero x ne = refl
slice_get-set_other (y ∷ xs) (suc i) (suc j) x ne = slice_get-set_other xs i j x (λ e. ne (ap suc e))

-- the first i words are read
pub record IsReadTo (entries u i : ℕ) (bytes : List ℕ) (old rows : List TableRow) : Type 0 where
  pub read : (k : ℕ) → k < i → word_at bytes (4 * k) ≡ table_word rows (u * entries + k)
  pub others : KeepsOthers entries u old rows
  pub counted : All HasFittingWear rows

pub none_read : (entries u : ℕ) (bytes : List ℕ) (rows : List TableRow) → All HasFittingWear rows → IsReadTo entries u 0 bytes rows rows
none_read entries u bytes rows counted = record {
  read = λ k l. absurd (omega arith);
  others = record { length_same = refl; others = λ b h. refl };
  counted = counted;
}

pub one_read : (entries u i b : ℕ) (bytes : List ℕ) (old rows : List TableRow) (row : TableRow) → IsReadTo entries u i bytes old rows
    → b ≡ u * entries + i → i < entries → b < length rows → word_of row ≡ word_at bytes (4 * i) → HasFittingWear row
    → IsReadTo entries u (i + 1) bytes old (set rows b row)
one_read entries u i b bytes old rows row h at within in_rows is row_counted = record {
  read = λ k l. elim (cases_order k i) [
    | inl same ↦ let place : u * entries + k ≡ b = rw same (sym at) in rw (place, slice_get-set_same rows b row in_rows, same) (sym is)
    | inr (inl below) ↦ let ne : u * entries + k ≢ b = omega arith in rw (slice_get-set_other rows b (u * entries + k) row ne) (h.read k below)
    | inr (inr above) ↦ absurd (omega arith)
  ];
  others = record {
    length_same = length-set rows b row ∙ h.others.length_same;
    others = λ c apart. let ne : c ≢ b = omega arith in slice_get-set_other rows b c row ne ∙ h.others.others c apart;
  };
  counted = All-set HasFittingWear rows b row row_counted h.counted;
}

-- a right word past the last block is padding
right_past : (blocks b word : ℕ) → blocks ≤ b → is_right blocks b word ≡ true → word ≡ padding
right_past blocks b word past right = eqb-true word padding (rw (le-ltb b blocks past) at right)

-- a right word of a block has a class
pub right_within : (blocks b word : ℕ) → b < blocks → is_right blocks b word ≡ true → word % 256 < 3
right_within blocks b word within right =
    let e : ltb (word % 256) 3 ≡ true = rw (lt-ltb b blocks within) at right in
    grind (arith, e)

pub padding_read : (entries u i b : ℕ) (bytes : List ℕ) (old rows : List TableRow) → IsReadTo entries u i bytes old rows → IsWellFormed entries (length old) u bytes → b ≡ u * entries + i → i < entries → length rows ≤ b → IsReadTo entries u (i + 1) bytes old rows
padding_read entries u i b bytes old rows h formed at within past = record {
  read = λ k l. elim (cases_order k i) [
    | inl same ↦
        let place : u * entries + k ≡ b = rw same (sym at) in
        let long : length old ≤ b = omega (arith, h.others.length_same) in
        let right : is_right (length old) b (word_at bytes (4 * k)) ≡ true = subst (λ (x : ℕ). is_right (length old) x (word_at bytes (4 * k)) ≡ true) place (formed.right k (omega arith)) in
        rw (place, slice_get_past rows b past) (right_past (length old) b (word_at bytes (4 * k)) long right)
    | inr (inl below) ↦ h.read k below
    | inr (inr above) ↦ absurd (omega arith)
  ];
  others = h.others;
  counted = h.counted;
}
