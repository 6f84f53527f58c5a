-- Reads of a source, one after another, and what they come to.
use Rattle.std.proofs.Common.{Result, Ok, Err, ◌≡◌, ℕ, ◌+◌, ◌<◌, ◌≤◌, ◌^◌, List, ◌++◌, length, refl, sym, subst, ◌∙◌, arith, inl, inr}
use Rattle.std.proofs.Math.Seq.{take-append_seam, drop-append_seam}
use Rattle.page_layout.specs.declared.geometry.Geometry.{Geometry}
use Rattle.page_layout.specs.Counter.{counted, HasRisen}
use Rattle.page_layout.specs.Geometry.{row_count}
use Rattle.page_layout.specs.OnlyReads.{OnlyReads}
use Rattle.page_layout.specs.Page.{page}
use Rattle.page_layout.specs.View.{View}
use Rattle.image_check.specs.declared.scan.SectorFault.{SectorFault}
use Rattle.image_check.specs.declared.scan.SectorFault.TheVariants.{OutOfRange, SequenceRepeated, Source}
use Rattle.image_check.specs.Sector.{MayShow, ShowsSector}

pub reads_none : {S : Type 0} (view : View S) (a : S) → OnlyReads view a a
reads_none view a = record { geometry_is = refl; honest_is = refl; calm_is = refl; programs_are = refl; erases_are = refl; failed_is = omega arith }

pub reads_then : {S : Type 0} (view : View S) (a b c : S) → OnlyReads view a b → OnlyReads view b c → OnlyReads view a c
reads_then view a b c h k = record {
  geometry_is = k.geometry_is ∙ h.geometry_is;
  honest_is = k.honest_is ∙ h.honest_is;
  calm_is = k.calm_is ∙ h.calm_is;
  programs_are = k.programs_are ∙ h.programs_are;
  erases_are = k.erases_are ∙ h.erases_are;
  failed_is = omega (arith, h.failed_is, k.failed_is);
}

-- a count that rose later rose on the whole
pub risen_over : (a b c : ℕ) → a ≤ b → HasRisen b c → HasRisen a c
risen_over a b c le (inl more) = inl (omega arith)
risen_over a b c le (inr top) = inr top

-- ---- the rows one after another

pub none_below : 0 < 0 → ⊥
none_below h = omega arith

pub at_end : (row end n : ℕ) → row ≤ end → end ≤ row → end ≡ n → row ≡ n
at_end row end n within past is = omega arith

-- what fits a geometry: a row of it, and buffers of one page
pub record FitsPage (g : Geometry) (row body spare : ℕ) : Type 0 where
  pub row_in : row < row_count g
  pub body_whole : body ≡ g.data_bytes
  pub spare_whole : spare ≡ g.spare_bytes

-- it fits another one that is the same
pub place_fits : (g k : Geometry) (row end body spare size more : ℕ) → k ≡ g → row < end → end ≡ row_count g → body ≡ size → size ≡ g.data_bytes → spare ≡ more → more ≡ g.spare_bytes → FitsPage k row body spare
place_fits g k row end body spare size more same below is body_same body_whole spare_same spare_whole =
    subst (λ x. FitsPage x row body spare) (sym same) (record { row_in = subst (λ n. row < n) is below; body_whole = body_same ∙ body_whole; spare_whole = spare_same ∙ spare_whole })

pub is_past : (sectors size n : ℕ) → size ≡ sectors → size ≤ n → sectors ≤ n
is_past sectors size n is past = subst (λ k. k ≤ n) is past

-- ---- counts of reads

pub reads_start : (a : ℕ) → a ≤ a + 0
reads_start a = omega arith

pub reads_same : (a n : ℕ) → a ≤ a + n
reads_same a n = omega arith

pub reads_next : (a b c n : ℕ) → b ≤ a + n → c ≡ counted b → c ≤ a + (n + 1)
reads_next a b c n few one = omega arith

-- as many reads as rows
pub reads_to : (a b n m : ℕ) → b ≤ a + n → n ≡ m → b ≤ a + m
reads_to a b n m few is = omega arith

pub reads_stopped : (a b c n end m : ℕ) → b ≤ a + n → c ≡ counted b → n < end → end ≡ m → c ≤ a + m
reads_stopped a b c n end m few one below is = omega arith

pub reads_spare : (a n : ℕ) → a ≤ a + n + 1
reads_spare a n = omega arith

pub reads_below : (a b n : ℕ) → b ≤ a + n → b ≤ a + n + 1
reads_below a b n few = omega arith

pub reads_more : (a b c n : ℕ) → b ≤ a + n → c ≡ counted b → c ≤ a + n + 1
reads_more a b c n few one = omega (arith, few, one)

pub reads_on : (a b c : ℕ) → (a ≤ b) × (b < 2 ^ 64) → c ≡ counted b → a ≤ c
reads_on a b c on one = omega (arith, on.0, on.1, one)

-- ---- what was read

pub shows_own : (g : Geometry) (n : ℕ) (body spare found out : List ℕ) → length body ≡ g.data_bytes → ShowsSector n (page body spare) found → out ≡ found → MayShow g n (body ++ spare) out
shows_own g n body spare found out whole h e = inr (rw (← whole, take-append_seam, drop-append_seam, e) h)

-- the count stays a u64
pub reads_kept : (a b c : ℕ) → (a ≤ b) × (b < 2 ^ 64) → c ≡ counted b → (a ≤ c) × (c < 2 ^ 64)
reads_kept a b c on one = (omega (arith, on.0, on.1, one), omega (arith, on.0, on.1, one))

-- ---- faults of a sector

pub past_not_below : (sectors n : ℕ) → sectors ≤ n → n < sectors → ⊥
past_not_below sectors n past below = omega arith

pub not_past : (sectors size n : ℕ) → size ≡ sectors → n < size → sectors ≤ n → ⊥
not_past sectors size n is below past = omega (arith, is, below, past)

pub shown_not : {T : Type 0} (r : Result T SectorFault) (x : T) (e : SectorFault) → r ≡ Ok x → r ≡ Err e → ⊥
shown_not r x e h k = (let never : ⊥ = cc in never)

pub range_no_source : {T : Type 0} (r : Result T SectorFault) → r ≡ Err OutOfRange → r ≡ Err Source → ⊥
range_no_source r h k = (let never : ⊥ = cc in never)

pub source_in_range : {T : Type 0} (r : Result T SectorFault) → r ≡ Err Source → r ≡ Err OutOfRange → ⊥
source_in_range r h k = (let never : ⊥ = cc in never)

pub repeated_in_range : {T : Type 0} (r : Result T SectorFault) (a b : ℕ) → r ≡ Err (SequenceRepeated a b) → r ≡ Err OutOfRange → ⊥
repeated_in_range r a b h k = (let never : ⊥ = cc in never)

pub repeated_no_source : {T : Type 0} (r : Result T SectorFault) (a b : ℕ) → r ≡ Err (SequenceRepeated a b) → r ≡ Err Source → ⊥
repeated_no_source r a b h k = (let never : ⊥ = cc in never)
