-- What a device starts with.
use Rattle.std.proofs.Common.{◌≡◌, ℕ, ◌<◌, false, List, [], ◌∷◌, replicate, zero, suc, slice_get, Option, Some, None, refl, sym, ap, subst, ◌∙◌, arith}
use Rattle.std.specs.List.{AllByRecursion}
use Rattle.page_layout.specs.declared.geometry.Geometry.{Geometry}
use Rattle.page_layout.specs.Geometry.{row_count, translation_pages}
use Rattle.page_layout.specs.Flash.{Flash}
use Rattle.bad_blocks.specs.Table.{good_count}
use Rattle.certificate.specs.Claim.{Claim, sizes_of, good_blocks}
use Rattle.certificate.specs.Spelling.{Fits, IsRowOf, rows_of}
use Rattle.mapping_cache.specs.Mapping.{MappingState}
use Rattle.allocation.specs.State.{State, free_count}
use Rattle.allocation.specs.Begun.{begun}
use Rattle.promises.specs.Legal.{accounts_of}
use Rattle.image_check.specs.Accepted.{Acceptance}
use Rattle.image_check.specs.Stale.{stale_sectors}
use Rattle.collection.specs.State.{Ram}
use Rattle.collection.specs.Left.{IsCalm}
use Rattle.collection.specs.Truth.{IsTrue}
use Rattle.collection.specs.Log.{IsAccounted}
use Rattle.ftl_device.specs.Begin.{begun_mapping, begun_ram, is_bad_in, free_in, is_scarce}
use Rattle.ftl_device.specs.Device.{IsAcceptedFor}
use Rattle.ftl_device.proofs.BlockLemmas.{free_counted, good_counted, begun_accounts}
use Rattle.ftl_device.proofs.BeginLemmas.{true_from_agreement}

-- ---- the parts that an engine is made of

pub begun_from : (share : ℕ) (g h : Geometry) (directory : List (Option ℕ)) (mapping : MappingState) (blocks : State) (next : ℕ) (c : Claim) (stale : List ℕ)
    (r : Ram) → h ≡ g → directory ≡ c.directory → mapping ≡ begun_mapping h share c stale → blocks ≡ begun h c.blocks → next ≡ c.next
    → r ≡
    record {
      geometry = h;
      directory = directory;
      mapping = mapping;
      blocks = blocks;
      next = next;
      fault = None;
      pin =
          record { block = None; marks = replicate (translation_pages h) false };
    } → r ≡ begun_ram g share c stale
begun_from share g h directory mapping blocks next c stale r same d m b n is =
    let whole : r ≡ begun_ram h share c stale = cc in
    whole ∙ ap (λ x. begun_ram x share c stale) same

row_at : (rows : ℕ) (os : List (Option ℕ)) (k row : ℕ) → AllByRecursion (IsRowOf rows) os → slice_get os k ≡ Some (Some row) → row < rows
row_at rows [] k row h at = absurd (let clash : None ≡ Some (Some row) = at in cc)
row_at rows (o ∷ os) zero row h at = let same : o ≡ Some row = cc in subst (IsRowOf rows) same h.0
row_at rows (o ∷ os) (suc k) row h at = row_at rows os k row h.1 at

pub directory_row : (h : Geometry) (c : Claim) (directory : List (Option ℕ)) (k row : ℕ) → Fits c → c.sizes ≡ sizes_of h → directory ≡ c.directory → slice_get directory k ≡ Some (Some row) → row < row_count h
directory_row h c directory k row fits same is at =
    let rows : rows_of c.sizes ≡ row_count h = ap rows_of same in
    let low : row < rows_of c.sizes = row_at (rows_of c.sizes) c.directory k row fits.directory (ap (λ d. slice_get d k) (sym is) ∙ at) in
    omega arith

-- ---- what it begins with

-- nothing is pinned, moved or marked yet
pub started_calm : (share : ℕ) (g : Geometry) (c : Claim) (stale : List ℕ) (r : Ram) → r ≡ begun_ram g share c stale → IsCalm r
started_calm share g c stale r is = subst IsCalm (sym is) (record { unmarked = refl; pinned = omega arith })

-- the count of free blocks that was looked at is the engine's
pub same_scarce : (n : ℕ) (r whole : Ram) → n ≡ free_count whole.blocks → r ≡ whole → is_scarce n ≡ is_scarce (free_count r.blocks)
same_scarce n r whole counted is = ap is_scarce (counted ∙ sym (ap (λ (x : Ram). free_count x.blocks) is))

pub started_good : (share : ℕ) (g : Geometry) (c : Claim) (stale : List ℕ) (r : Ram) → Fits c → r ≡ begun_ram g share c stale → good_count r.blocks.table ≡ good_blocks c
started_good share g c stale r fits is = ap (λ (x : Ram). good_count x.blocks.table) is ∙ good_counted c.blocks fits.blocks

module _ (share : ℕ) (s : Flash) (a : Acceptance) (r : Ram) (is : r ≡ begun_ram s.geometry share a.claim a.stale) (accepted : IsAcceptedFor s a) where
  pub started_truth : IsTrue None r s.image
  started_truth =
      let exactly : r ≡ begun_ram s.geometry share a.claim (stale_sectors s.geometry s.image) = is ∙ ap (begun_ram s.geometry share a.claim) accepted.accepted.stale_is in
      subst (λ x. IsTrue None x s.image) (sym exactly) (true_from_agreement s.geometry share a.claim.capacity s.image a.claim accepted.whole accepted.accepted.agrees)

  pub started_free : is_scarce (free_count r.blocks) ≡ is_scarce (free_in s.geometry a.claim s.image)
  started_free = ap (λ (x : Ram). is_scarce (free_count x.blocks)) is ∙ ap is_scarce (free_counted s.geometry a.claim.capacity s.image a.claim accepted.accepted.agrees)

  pub started_accounts : IsAccounted (accounts_of s.geometry s.image (is_bad_in a.claim)) r.blocks
  started_accounts = subst (λ (x : Ram). IsAccounted (accounts_of s.geometry s.image (is_bad_in a.claim)) x.blocks) (sym is) (begun_accounts s.geometry a.claim.capacity s.image a.claim accepted.accepted.agrees)
