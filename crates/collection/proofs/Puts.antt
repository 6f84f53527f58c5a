-- A page with its tries.
use Rattle.std.proofs.Common.{◌≡◌, ◌≢◌, inl, inr, ℕ, ◌/◌, ◌<◌, false, List, Option, Some, None, Result, Ok, Err, MatchResult, OnOk, refl, ap, sym, ◌∙◌, subst}
use Rattle.page_layout.specs.declared.geometry.Geometry.{Geometry}
use Rattle.page_layout.specs.declared.record.Record.{Record}
use Rattle.page_layout.specs.declared.record.Kind.{Kind}
use Rattle.page_layout.specs.declared.record.Kind.TheVariants as kind
use Rattle.page_layout.specs.declared.record.Key.{Key}
use Rattle.page_layout.specs.declared.record.Key.TheVariants.{Sector, Translation, Table}
use Rattle.page_layout.specs.Page.{Image}
use Rattle.page_layout.specs.Key.{key_of, key_from}
use Rattle.page_layout.specs.Live.{IsKeyOf}
use Rattle.page_layout.specs.Array.{array_of, marks}
use Rattle.page_layout.specs.Change.{Keeps, Writes}
use Rattle.page_layout.proofs.KeyLemmas.{cases_key}
use Rattle.page_layout.proofs.StepLemmas.{Keeps-refl, Keeps-trans, Keeps-Writes, array_kept, array_written, array_unwritten}
use Rattle.mapping_cache.specs.Mapping.{MappingState}
use Rattle.collection.specs.declared.fault.EngineFault.{EngineFault}
use Rattle.collection.specs.declared.fault.EngineFault.TheVariants.{ReadOnly, SequenceSpent, Damaged, Bus}
use Rattle.collection.specs.State.{Ram}
use Rattle.page_layout.specs.Sound.{version_for}
use Rattle.page_layout.specs.Newest.{newest}
use Rattle.page_layout.specs.Version.{HasOldAt, is_1, is_old, is_old_at}
use Rattle.page_layout.proofs.VersionLemmas.{kept_adds_none, written_adds_none}
use Rattle.collection.specs.Pages.{newest_row}
use Rattle.collection.specs.Maps.{IsPageFor}
use Rattle.collection.specs.Truth.{IsTrue}
use Rattle.collection.specs.Safe.{IsOutside, is_shut}
use Rattle.collection.specs.Results.{MayPut, Attempted, IsImageKept, IsPut, IsSame, KeepsPage, LeavesNewest, Refused, Goes, GoesPut, last_record, array_after}
use Rattle.collection.proofs.Memory.{shut_row}
use Rattle.collection.proofs.Truths.{row_in_block, newest_in}

pub kept_same : (r : Ram) (image : Image) → IsTrue None r image → IsImageKept r image r image
kept_same r image w = record { truth = w; keeps = Keeps-refl r.geometry image w.one }

-- what was kept has the same array
pub same_kept : (a b : Ram) (x y : Image) → IsImageKept a x b y → IsSame a x b y
same_kept a b x y k = record { truth = k.truth; array = array_kept a.geometry x y k.keeps; leaves = record { each = λ key. inl (k.keeps.newest_same key); versions = kept_adds_none a.geometry x y k.keeps } }

pub leaves_same : (r : Ram) (old new : Image) → new ≡ old → LeavesNewest r old new
leaves_same r old new same = record { each = λ key. inl (ap (λ i. newest_row i key) same); versions = λ two key row at. subst (λ i. HasOldAt i key row) same at }

pub leaves_written : (r : Ram) (rec : Record) (row : ℕ) (body : List ℕ) (old new : Image) → Writes r.geometry rec row body old new → IsOutside r row → LeavesNewest r old new
leaves_written r rec row body old new w out = record {
  each = λ k. elim (cases_key (key_of rec) k) [
    | inl same ↦ inr (λ q is. (let e : newest_row new k ≡ Some row = ap (newest_row new) (sym same) ∙ w.newest_now in let h : q ≡ row = cc in rw h out.outside))
    | inr other ↦ inl (w.newest_others k other)
  ];
  versions = written_adds_none r.geometry rec row body old new w;
}

-- the newest page of another key stays as it is
pub written_keeps : (g : Geometry) (rec : Record) (row : ℕ) (body : List ℕ) (old new : Image) (other : Key) → other ≢ key_of rec → Writes g rec row body old new → KeepsPage other old new
unfolding is_old
written_keeps g rec row body old new other ne w = by (newest (marks old) other) refl
  where
    apart : key_of rec ≢ other
    apart e = ne (sym e)

    by : (o : Option ℕ) → newest (marks old) other ≡ o → KeepsPage other old new
    by None is = record {
      row = w.newest_others other apart;
      version = ap (is_old_at new) (w.newest_others other apart ∙ is) ∙ sym (ap (is_old_at old) is);
    }
    by (Some q) is = record {
      row = w.newest_others other apart;
      version = ap (is_old_at new) (w.newest_others other apart ∙ is) ∙ (ap is_1 (w.versions other q apart is) ∙ sym (ap (is_old_at old) is));
    }

pub keeps_page_then : (key : Key) (x y z : Image) → KeepsPage key x y → KeepsPage key y z → KeepsPage key x z
keeps_page_then key x y z k l = record { row = l.row ∙ k.row; version = l.version ∙ k.version }

-- ---- one call after another

module _ (a b c : Ram) (x y z : Image) (goes : Goes a b) (after : c.geometry ≡ b.geometry) where
  keeps_over : Keeps a.geometry x y → Keeps b.geometry y z → Keeps a.geometry x z
  keeps_over s t = (let P : Geometry → Type 0 = λ g. Keeps g y z in Keeps-trans a.geometry x y z s (subst P goes.geometry t))

  pub kept_then : IsImageKept a x b y → IsImageKept b y c z → IsImageKept a x c z
  kept_then k l = record { truth = l.truth; keeps = keeps_over k.keeps l.keeps }

  pub put_after : (kind : Kind) (n row : ℕ) (body : List ℕ) → IsImageKept a x b y → IsPut kind n row body b y c z → IsPut kind n row body a x c z
  put_after kind n row body k p = record {
    truth = p.truth;
    writes = (let P : Geometry → Type 0 = λ g. Writes g (last_record kind n row c) row body y z in Keeps-Writes a.geometry (last_record kind n row c) row body x y z k.keeps (subst P goes.geometry p.writes));
  }

  pub leaves_then : IsTrue None c z → LeavesNewest a x y → LeavesNewest b y z → LeavesNewest a x z
  leaves_then w k l = record {
    each = λ key. elim (l.each key) [
      | inl same ↦ elim (k.each key) [
        | inl before ↦ inl (same ∙ before)
        | inr out ↦ inr (λ q is. out q (sym same ∙ is))
      ]
      | inr out ↦ inr (λ q is. within q (newest_block key q is) (out q is))
    ];
    versions = λ two key row at. k.versions two key row (l.versions (ap version_for goes.geometry ∙ two) key row at);
  }
    where
      newest_block : (key : Key) (q : ℕ) → newest_row z key ≡ Some q → q / a.geometry.pages < a.geometry.blocks
      newest_block key q is = (let P : Geometry → Type 0 = λ g. q / g.pages < g.blocks in subst P (after ∙ goes.geometry) (row_in_block c.geometry q (newest_in c.geometry z key q w.whole.rows is)))

      within : (q : ℕ) → q / a.geometry.pages < a.geometry.blocks → is_shut b.blocks (q / b.geometry.pages) ≡ false → is_shut a.blocks (q / a.geometry.pages) ≡ false
      within q lt out = shut_row a b (q / a.geometry.pages) goes lt (ap (λ g. is_shut b.blocks (q / g.pages)) (sym goes.geometry) ∙ out)

  pub same_then : IsSame a x b y → IsSame b y c z → IsSame a x c z
  same_then k l = record { truth = l.truth; array = (let P : Geometry → Type 0 = λ g. array_of g z ≡ array_of g y in subst P goes.geometry l.array ∙ k.array); leaves = leaves_then l.truth k.leaves l.leaves }

  pub refused_then : (fault : EngineFault) → IsSame a x b y → Refused b y c z fault → Refused a x c z fault
  refused_then ReadOnly k l = same_then k l
  refused_then SequenceSpent k l = same_then k l
  refused_then Damaged k l = l
  refused_then Bus k l = tt

pub outside_then : (a b : Ram) (row : ℕ) → Goes a b → IsOutside b row → IsOutside a row
outside_then a b row goes o =
    let lt : row / a.geometry.pages < a.geometry.blocks = (let P : Geometry → Type 0 = λ g. row / g.pages < g.blocks in subst P goes.geometry (row_in_block b.geometry row o.within)) in
    record {
      within = (let w = o.within in rw (← goes.geometry) w);
      outside = shut_row a b (row / a.geometry.pages) goes lt (ap (λ g. is_shut b.blocks (row / g.pages)) (sym goes.geometry) ∙ o.outside);
    }

page_still : (g : Geometry) (old new : Image) (m : MappingState) (body : List ℕ) (key : Key) → Keeps g old new → IsPageFor g old m body key → IsPageFor g new m body key
page_still g old new m body (Sector n) s f = tt
page_still g old new m body (Translation t) s f = λ n lt at none. f n lt at none ∙ sym (s.newest_same (Sector n))
page_still g old new m body (Table u) s f = f

pub may_still : (kind : Kind) (n : ℕ) (old_row : Option ℕ) (body body' : List ℕ) (a b : Ram) (x y : Image) → MayPut kind n old_row body a x → body' ≡ body → GoesPut a b → IsImageKept a x b y → MayPut kind n old_row body' b y
may_still kind n old_row body body' a b x y m same goes k = record {
  truth = k.truth;
  page_for = (let e : IsPageFor a.geometry y a.mapping body (key_from kind n) = page_still a.geometry x y a.mapping body (key_from kind n) k.keeps m.page_for in
      let P : Geometry → MappingState → List ℕ → Type 0 = λ g s bytes. IsPageFor g y s bytes (key_from kind n) in
      subst (λ g. P g b.mapping body') (sym goes.goes.geometry) (subst (λ s. P a.geometry s body') (sym goes.mapping) (subst (λ bytes. P a.geometry a.mapping bytes) (sym same) e)));
  old_row_is = m.old_row_is ∙ sym (k.keeps.newest_same (key_from kind n));
}

pub attempted_none : (kind : Kind) (n : ℕ) (body : List ℕ) (a b : Ram) (x y : Image) (o : Option ℕ) → Attempted kind n body a x b y o → o ≡ None → IsImageKept a x b y
attempted_none kind n body a b x y o t is = (let P : Option ℕ → Type 0 = λ v. Attempted kind n body a x b y v in subst P is t)

pub attempted_some : (kind : Kind) (n row : ℕ) (body body' : List ℕ) (a b : Ram) (x y : Image) (o : Option ℕ) → Attempted kind n body' a x b y o → o ≡ Some row → body' ≡ body → IsPut kind n row body a x b y
attempted_some kind n row body body' a b x y o t is same =
    let P : List ℕ → Option ℕ → Type 0 = λ bytes v. Attempted kind n bytes a x b y v in
    subst (λ bytes. P bytes (Some row)) same (subst (λ v. P body' v) is t)

-- ---- what a put makes of the array

pub array_put : (kind : Kind) (n row : ℕ) (body : List ℕ) (a b : Ram) (x y : Image) → IsKeyOf a.geometry (key_from kind n) → IsPut kind n row body a x b y → array_of a.geometry y ≡ array_after a.geometry kind n body (array_of a.geometry x)
array_put kind.Sector n row body a b x y lt p = array_written a.geometry n row (last_record kind.Sector n row b) body x y lt refl p.writes
array_put kind.Trim n row body a b x y lt p = array_written a.geometry n row (last_record kind.Trim n row b) body x y lt refl p.writes
array_put kind.Translation n row body a b x y lt p = array_unwritten a.geometry (last_record kind.Translation n row b) row body x y (λ k e. (let no : ⊥ = cc in no)) p.writes
array_put kind.Table n row body a b x y lt p = array_unwritten a.geometry (last_record kind.Table n row b) row body x y (λ k e. (let no : ⊥ = cc in no)) p.writes

-- whatever the answer is
pub array_result : (kind : Kind) (n : ℕ) (body : List ℕ) (a b : Ram) (x y : Image) (result : Result ℕ EngineFault)
    → IsKeyOf a.geometry (key_from kind n) → MatchResult result (λ row. IsPut kind n row body a x b y) (Refused a x b y)
    → OnOk result (array_of a.geometry y ≡ array_after a.geometry kind n body (array_of a.geometry x))
array_result kind n body a b x y (Ok row) lt p = array_put kind n row body a b x y lt p
array_result kind n body a b x y (Err f) lt p = tt
