-- What is found of an image after a loss of power, where pages were programmed alone since it was stored.
use Rattle.std.proofs.Common.{◌≡◌, inl, inr, ℕ, ◌<◌, ◌≤◌, Bool, List, length, get_or, set, Some, None, refl, sym, ap, subst, ◌∙◌}
use Rattle.std.specs.Prelude.{slice_get, unwrap_or}
use Rattle.std.proofs.lemmas.Bool.{cases_eq}
use Rattle.std.proofs.lemmas.List.{length-set}
use Rattle.page_layout.specs.declared.geometry.Geometry.{Geometry}
use Rattle.page_layout.specs.declared.record.Record.{Record}
use Rattle.page_layout.specs.declared.record.Key.TheVariants.{Sector}
use Rattle.page_layout.specs.Page.{Page, Image, IsImage}
use Rattle.page_layout.specs.Sound.{record_of}
use Rattle.page_layout.specs.Key.{key_of}
use Rattle.page_layout.specs.Newest.{newest}
use Rattle.page_layout.specs.Array.{marks, content, content_at, sector_of, HasOneArray}
use Rattle.page_layout.specs.Change.{IsUnsoundAt}
use Rattle.page_layout.specs.Flash.{Program}
use Rattle.page_layout.proofs.ArrayLemmas.{mark-same, marks-set, slice_get-set_other}
use Rattle.page_layout.proofs.NewestLemmas.{set_unsound}
use Rattle.image_check.specs.Mountable.{IsMountable}
use Rattle.image_check.specs.Stale.{stale_count}
use Rattle.image_check.proofs.MountableLemmas.{mountable, orderly_of}
use Rattle.image_laws.specs.Power.{Grows, IsPageSince, LosesPower, LosesSince, MountedSince}
use Rattle.image_laws.proofs.PowerLemmas.{both, either, found_mounts, found_one, no_page, program_grows, program_mounts, programmed, stored_mounts, which}
use Rattle.disk_laws.specs.Lost.{LostInProgram}
use Rattle.disk_laws.proofs.FitLemmas.{IsLeftNewest}

-- ---- what is claimed of a sector: that it has bytes of this kind

-- an image that stands at a moment: it mounts, and its sectors are so
pub record Stands (g : Geometry) (capacity : ℕ) (is_so : ℕ → List ℕ → Type 0) (image : Image) : Type 0 where
  pub mounts : IsMountable g capacity image
  pub sectors : (n : ℕ) → n < g.sectors → is_so n (sector_of g image n)

-- an image that is found: it is one array, its sectors are so, and it mounts with each cache that has room for what is stale
pub record IsFound (g : Geometry) (is_so : ℕ → List ℕ → Type 0) (image : Image) : Type 0 where
  pub one : HasOneArray g image
  pub mounts : (capacity : ℕ) → 1 ≤ capacity → capacity ≤ 65536 → stale_count g image ≤ capacity → IsMountable g capacity image
  pub sectors : (n : ℕ) → n < g.sectors → is_so n (sector_of g image n)

-- what lasts, and what is there: pages were programmed alone, and each sector was so as all lasted, and reads so by each page of it since
pub record GrewSince (g : Geometry) (is_so : ℕ → List ℕ → Type 0) (stored image : Image) : Type 0 where
  pub grows : Grows stored image
  pub mounted : MountedSince g stored image
  pub was : (n : ℕ) → n < g.sectors → is_so n (sector_of g stored n)
  pub pages : (n row : ℕ) → n < g.sectors → IsPageSince stored image (Sector n) row → is_so n (content_at g image (Some row))

-- ---- one image

pub one_of : (g : Geometry) (capacity : ℕ) (image : Image) → IsMountable g capacity image → HasOneArray g image
one_of g capacity image m = (let o = orderly_of g capacity image m in record { distinct = o.sequences; in_range = o.numbers.in_range })

unsound_set : (image : Image) (row : ℕ) (p : Page) → IsUnsoundAt image row → record_of p ≡ None → marks (set image row p) ≡ marks image
unsound_set image row p was none = marks-set image row p ∙ (ap (set (marks image) row) none ∙ set_unsound (marks image) row was)

sector_by : (g : Geometry) (image : Image) (n row : ℕ) → newest (marks image) (Sector n) ≡ Some row → sector_of g image n ≡ content_at g image (Some row)
unfolding sector_of
sector_by g image n row top = ap (content_at g image) top

module _ (g : Geometry) (capacity : ℕ) (is_so : ℕ → List ℕ → Type 0) where
  pub found_stop : (image : Image) → IsImage g image → Stands g capacity is_so image → IsFound g is_so image
  found_stop image whole stands = record {
    one = one_of g capacity image stands.mounts;
    mounts = λ c least most few.
        let o = orderly_of g capacity image stands.mounts in
        (mountable g c image whole.rows least most).1 (record { numbers = o.numbers; sequences = o.sequences; tables = o.tables; last = o.last; fresh = few });
    sectors = stands.sectors;
  }

  pub found_lost : (stored image found : Image) → IsImage g image → Stands g capacity is_so image → GrewSince g is_so stored image → LosesSince stored image found → IsFound g is_so found
  found_lost stored image found whole stands since loses =
      let power : LosesPower g stored image found = record { one = one_of g capacity image stands.mounts; grows = since.grows; loses = loses } in
      record {
        one = found_one g stored image found power;
        mounts = λ c least most few. (found_mounts g c stored image found whole.rows least most power since.mounted).1 few;
        sectors = λ n within. elim (either g stored image found n power) [
          | inl was ↦ subst (is_so n) (sym was) (since.was n within)
          | inr new ↦ subst (is_so n) (sym new.2) (since.pages n new.0 within new.1)
        ];
      }

  -- all lasts
  pub since_begin : (image : Image) → Stands g capacity is_so image → GrewSince g is_so image image
  since_begin image stands = record {
    grows = record { size = refl; kept = λ row r has. refl };
    mounted = stored_mounts g capacity image stands.mounts;
    was = stands.sectors;
    pages = λ n row within page. absurd (no_page image (Sector n) row page);
  }

  -- a row that has no record now had none then
  pub none_then : (stored image : Image) (row : ℕ) → Grows stored image → IsUnsoundAt image row → IsUnsoundAt stored row
  none_then stored image row grows none = elim (which (get_or (marks stored) row None)) [
    | inl then ↦ then
    | inr some ↦ absurd (both _ some.0 none (mark-same image stored row (grows.kept row some.0 some.1) ∙ some.1))
  ]

  -- a program of a page
  module _ (stored image : Image) (row : ℕ) (left : Page) (since : GrewSince g is_so stored image) (none : IsUnsoundAt image row)
      (newest_is : IsLeftNewest (set image row left) row left) (stands : Stands g capacity is_so (set image row left)) where
    top : (r : Record) → record_of left ≡ Some r → newest (marks (set image row left)) (key_of r) ≡ Some row
    top r has = elim newest_is [
      | inl gone ↦ absurd (both _ r gone has)
      | inr now ↦ subst (λ (x : Record). newest (marks (set image row left)) (key_of x) ≡ Some row) (ap (λ o. unwrap_or o r) (sym now.1 ∙ has)) now.2
    ]

    reads : (n q : ℕ) → n < g.sectors → IsPageSince stored (set image row left) (Sector n) q → is_so n (content_at g (set image row left) (Some q))
    reads n q within page = elim (programmed image row q left page.its page.has) [
      | inl now ↦
          let here : newest (marks (set image row left)) (Sector n) ≡ Some q =
          subst (λ k. newest (marks (set image row left)) k ≡ Some q) page.of (top page.its now.1 ∙ ap Some (sym now.0)) in
          subst (is_so n) (sector_by g (set image row left) n q here) (stands.sectors n within)
      | inr as_was ↦
          let was : IsPageSince stored image (Sector n) q = record { none = page.none; its = page.its; has = sym (mark-same (set image row left) image q as_was) ∙ page.has; of = page.of } in
          subst (is_so n) (ap (content g) (sym as_was)) (since.pages n q within was)
    ]

    pub since_program : GrewSince g is_so stored (set image row left)
    since_program = record {
      grows = program_grows stored image row left since.grows (none_then stored image row since.grows none);
      mounted = program_mounts g capacity stored image row left since.mounted stands.mounts top;
      was = since.was;
      pages = reads;
    }

  -- the power goes as a program of a row without a record begins, or inside it
  pub torn_program : (stored image found : Image) (row : ℕ) (page left : Page) (passed : Bool) → Grows stored image → IsUnsoundAt image row
      → LostInProgram g.pages stored image (Program row page passed left) found → LosesSince stored image found
  torn_program stored image found row page left passed grows none (torn, inl same, loses) = subst (λ i. LosesSince stored i found) same loses
  torn_program stored image found row page left passed grows none (torn, inr (p, is, gone), loses) = record {
    size = loses.size ∙ (ap length is ∙ length-set image row p);
    rows = λ q. elim (loses.rows q) [
      | inr lost ↦ inr lost
      | inl same ↦ elim (cases_eq q row) [
        | inr apart ↦ inl (same ∙ (ap (λ i. slice_get i q) is ∙ slice_get-set_other image row q p apart))
        | inl here ↦
            let unsound_torn : IsUnsoundAt torn q = ap (λ i. get_or (marks i) q None) is ∙ (ap (λ ms. get_or ms q None) (unsound_set image row p none gone) ∙ subst (IsUnsoundAt image) (sym here) none) in
            inr (none_then stored image q grows (subst (IsUnsoundAt image) (sym here) none), mark-same found torn q same ∙ unsound_torn)
      ]
    ];
  }
