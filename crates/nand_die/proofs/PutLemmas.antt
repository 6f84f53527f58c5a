-- What is put out of a page or of an identity, and what is refused.
use Rattle.std.proofs.Common.{◌≡◌, ◌≢◌, ℕ, ◌+◌, ◌<◌, ◌≤◌, List, [], ◌∷◌, take, drop, length, refl, sym, ◌∙◌, ap, subst, arith, if◌then◌else◌, length-drop}
use Rattle.std.proofs.lemmas.Bool.{le-leb, lt-leb}
use Rattle.std.proofs.lemmas.List.{drop-drop}
use Rattle.page_layout.specs.declared.geometry.Geometry.{Geometry}
use Rattle.page_layout.specs.Geometry.{row_count, page_bytes}
use Rattle.page_layout.specs.Flash.{Flash}
use Rattle.onfi_cycles.specs.declared.nand.BusFault.{BusFault}
use Rattle.onfi_cycles.specs.declared.nand.BusFault.TheVariants.{ColumnRange, OutOfTurn, Device}
use Rattle.onfi_cycles.specs.Cycles.{Phase, Moves, Refuses, Ready, PageOut, IdentityOut, output_due, bytes_for}
use Rattle.nand_die.specs.declared.bus_state.OutputSource.{OutputSource}
use Rattle.nand_die.specs.declared.bus_state.OutputSource.TheVariants as output
use Rattle.nand_die.specs.BusState.{output_of, IsOutputWithin, IsProtocolFault, ShowsPagePutOut}

-- so many bytes were put out of a source, and this is to be put out next
pub record PutsOn (g : Geometry) (page : List ℕ) (status : ℕ) (from next : OutputSource) (n : ℕ) (out : List ℕ) : Type 0 where
  pub due : output_due g (output_of from) n ≡ Moves (Ready (output_of next))
  pub within : IsOutputWithin g next
  pub same_page : (row column : ℕ) → next ≡ output.Page row column → (before : ℕ) × (from ≡ output.Page row before)
  pub bytes : (s : Flash) (phase : Phase) → ShowsPagePutOut s from page → out ≡ bytes_for (record { flash = s; phase = phase; status = status }) (output_of from) n

-- a part from this place on
abbrev IsPart : List ℕ → ℕ → ℕ → ℕ → List ℕ → Type 0
IsPart bytes start n next out = (next ≡ start + n) × (next ≤ length bytes) × (out ≡ take n (drop start bytes))

pub page_put : (g : Geometry) (page : List ℕ) (status : ℕ) (from : OutputSource) (row column next n : ℕ) (out : List ℕ) → length page ≡ page_bytes g → IsOutputWithin g from → from ≡ output.Page row column
    → IsPart page column n next out → PutsOn g page status from (output.Page row next) n out
page_put g page status from row column next n out size within is part =
    let inside : (row < row_count g) × (column ≤ page_bytes g) = subst (IsOutputWithin g) is within in
    let fits : column + n ≤ page_bytes g = omega (arith, part.0, part.1, size) in
    subst (λ s. PutsOn g page status s (output.Page row next) n out) (sym is) (record {
      due = ap (λ b. if b then Moves (Ready (PageOut row (column + n))) else Refuses ColumnRange) (le-leb (column + n) (page_bytes g) fits) ∙ ap (λ k. Moves (Ready (PageOut row k))) (sym part.0);
      within = (inside.0, omega (arith, part.1, size));
      same_page = λ r c e. (column, ap (λ k. output.Page k column) (same_row r c e));
      bytes = λ s phase shows. part.2 ∙ ap (λ bytes. take n (drop column bytes)) (sym shows);
    })
  where
    same_row : (r c : ℕ) → output.Page row next ≡ output.Page r c → row ≡ r
    same_row r c e = cc

-- an identity, of these bytes
identity_due : (g : Geometry) (bytes : List ℕ) (taken next n : ℕ) → (next ≡ taken + n) × (next ≤ length bytes) → output_due g (IdentityOut (drop taken bytes)) n ≡ Moves (Ready (IdentityOut (drop next bytes)))
identity_due g bytes taken next n part =
    let fits : n ≤ length (drop taken bytes) = omega (arith, part.0, part.1, length-drop taken bytes) in
    ap (λ b. if b then Moves (Ready (IdentityOut (drop n (drop taken bytes)))) else Refuses ColumnRange) (le-leb n (length (drop taken bytes)) fits)
    ∙ ap (λ rest. Moves (Ready (IdentityOut rest))) (drop-drop n taken bytes ∙ ap (λ k. drop k bytes) (sym part.0))

pub name_put : (g : Geometry) (page : List ℕ) (status : ℕ) (from : OutputSource) (taken next n : ℕ) (out : List ℕ) → from ≡ output.Identity taken → IsPart (0x4F ∷ 0x4E ∷ 0x46 ∷ 0x49 ∷ []) taken n next out
    → PutsOn g page status from (output.Identity next) n out
name_put g page status from taken next n out is part = subst (λ s. PutsOn g page status s (output.Identity next) n out) (sym is) (record {
  due = identity_due g (0x4F ∷ 0x4E ∷ 0x46 ∷ 0x49 ∷ []) taken next n (part.0, part.1);
  within = part.1;
  same_page = λ r c e. absurd (let never : ⊥ = cc in never);
  bytes = λ s phase shows. part.2;
})

pub zeros_put : (g : Geometry) (page : List ℕ) (status : ℕ) (from : OutputSource) (taken next n : ℕ) (out : List ℕ) → from ≡ output.Zeros taken → IsPart (0 ∷ 0 ∷ []) taken n next out → PutsOn g page status from (output.Zeros next) n out
zeros_put g page status from taken next n out is part = subst (λ s. PutsOn g page status s (output.Zeros next) n out) (sym is) (record {
  due = identity_due g (0 ∷ 0 ∷ []) taken next n (part.0, part.1);
  within = part.1;
  same_page = λ r c e. absurd (let never : ⊥ = cc in never);
  bytes = λ s phase shows. part.2;
})

-- ---- what is refused

abbrev IsRefusal : Geometry → OutputSource → ℕ → BusFault → List ℕ → List ℕ → Type 0
IsRefusal g from n fault before out = (output_due g (output_of from) n ≡ Refuses fault) × IsProtocolFault fault × (out ≡ before)

pub none_put : (g : Geometry) (from : OutputSource) (n : ℕ) (before : List ℕ) → from ≡ output.Nothing → IsRefusal g from n OutOfTurn before before
none_put g from n before is = (ap (λ s. output_due g (output_of s) n) is, own, refl)
  where
    own : OutOfTurn ≢ Device
    own e = cc

range_own : ColumnRange ≢ Device
range_own e = cc

pub page_short : (g : Geometry) (page : List ℕ) (from : OutputSource) (row column n : ℕ) (before out : List ℕ) → length page ≡ page_bytes g → from ≡ output.Page row column → (length page < column + n) × (out ≡ before) → IsRefusal g from n ColumnRange before out
page_short g page from row column n before out size is past = (
  ap (λ s. output_due g (output_of s) n) is ∙ ap (λ b. if b then Moves (Ready (PageOut row (column + n))) else Refuses ColumnRange) (lt-leb (column + n) (page_bytes g) (omega (arith, past.0, size))),
  range_own,
  past.1,
)

short_due : (g : Geometry) (bytes : List ℕ) (taken n : ℕ) → length bytes < taken + n → taken ≤ length bytes → output_due g (IdentityOut (drop taken bytes)) n ≡ Refuses ColumnRange
short_due g bytes taken n past within =
    ap (λ b. if b then Moves (Ready (IdentityOut (drop n (drop taken bytes)))) else Refuses ColumnRange) (lt-leb n (length (drop taken bytes)) (omega (arith, past, within, length-drop taken bytes)))

pub name_short : (g : Geometry) (from : OutputSource) (taken n : ℕ) (before out : List ℕ) → IsOutputWithin g from → from ≡ output.Identity taken → (4 < taken + n) × (out ≡ before) → IsRefusal g from n ColumnRange before out
name_short g from taken n before out within is past = (
  ap (λ s. output_due g (output_of s) n) is ∙ short_due g (0x4F ∷ 0x4E ∷ 0x46 ∷ 0x49 ∷ []) taken n past.0 (subst (IsOutputWithin g) is within),
  range_own,
  past.1,
)

pub zeros_short : (g : Geometry) (from : OutputSource) (taken n : ℕ) (before out : List ℕ) → IsOutputWithin g from → from ≡ output.Zeros taken → (2 < taken + n) × (out ≡ before) → IsRefusal g from n ColumnRange before out
zeros_short g from taken n before out within is past = (
  ap (λ s. output_due g (output_of s) n) is ∙ short_due g (0 ∷ 0 ∷ []) taken n past.0 (subst (IsOutputWithin g) is within),
  range_own,
  past.1,
)
