-- What is found after a loss of power, by a log: operation by operation.
use Rattle.std.proofs.Common.{◌≡◌, ◌⊎◌, inl, inr, ℕ, ◌+◌, Bool, List, [], ◌∷◌, ◌++◌, set, sym, ap, subst, ◌∙◌}
use Rattle.std.specs.Prelude.{IsSomeAnd}
use Rattle.page_layout.specs.declared.geometry.Geometry.{Geometry}
use Rattle.page_layout.specs.declared.record.Record.{Record}
use Rattle.page_layout.specs.Page.{Page, Image, IsImage}
use Rattle.page_layout.specs.Sound.{record_of}
use Rattle.page_layout.specs.Change.{IsUnsoundAt}
use Rattle.page_layout.specs.Flash.{Flash, Operation, Program, Erase, Leads, Steps, with_block}
use Rattle.page_layout.specs.Recording.{image_after, image_after_all}
use Rattle.page_layout.proofs.FlashLemmas.{geometry-Steps, image-erase, image-program}
use Rattle.page_layout.proofs.RecordingLemmas.{image_stays}
use Rattle.promises.specs.Stop.{LeftBy, MayLeave}
use Rattle.promises.specs.Legal.{Account, accounted, IsDueErase, IsDueProgram, LegalFrom}
use Rattle.promises.proofs.StopLemmas.{between}
use Rattle.collection.specs.Log.{NumbersFrom}
use Rattle.disk_laws.specs.Lost.{LostBy}
use Rattle.disk_laws.proofs.FitLemmas.{Fits, IsLeftNewest, erase_fits, left_newest, program_fits, unsound}
use Rattle.disk_laws.proofs.GrowLemmas.{GrewSince, IsFound, Stands, found_lost, found_stop, since_begin, since_program, torn_program}

-- ---- two logs in a row

-- what lasts after operations: what was there as the last erase among them ended, or what lasted before them
abbrev pub lasts_after : ℕ → (stored image : Image) → List Operation → Image
lasts_after pages stored image [] = stored
lasts_after pages stored image (Program row page passed left ∷ log) = lasts_after pages stored (image_after pages image (Program row page passed left)) log
lasts_after pages stored image (Erase block passed left ∷ log) = lasts_after pages (image_after pages image (Erase block passed left)) (image_after pages image (Erase block passed left)) log

pub lost_apart : (pages : ℕ) (stored image found : Image) (xs ys : List Operation) → LostBy pages stored image (xs ++ ys) found
    → LostBy pages stored image xs found ⊎ LostBy pages (lasts_after pages stored image xs) (image_after_all pages image xs) ys found
lost_apart pages stored image found [] ys by = inr by
lost_apart pages stored image found (Program row page passed left ∷ xs) ys (inl here) = inl (inl here)
lost_apart pages stored image found (Program row page passed left ∷ xs) ys (inr later) =
    elim (lost_apart pages stored (image_after pages image (Program row page passed left)) found xs ys later) [ inl first ↦ inl (inr first) | inr second ↦ inr second ]
lost_apart pages stored image found (Erase block passed left ∷ xs) ys (inl here) = inl (inl here)
lost_apart pages stored image found (Erase block passed left ∷ xs) ys (inr (inl torn)) = inl (inr (inl torn))
lost_apart pages stored image found (Erase block passed left ∷ xs) ys (inr (inr later)) =
    let now : Image = image_after pages image (Erase block passed left) in
    elim (lost_apart pages now now found xs ys later) [ inl first ↦ inl (inr (inr first)) | inr second ↦ inr second ]

-- ---- one operation

pub after_program : (pages : ℕ) (s t : Flash) (row : ℕ) (page left : Page) (passed : Bool) → Steps s (Program row page passed left) t → t.image ≡ image_after pages s.image (Program row page passed left)
unfolding image_after
after_program pages s t row page left passed step = image-program s t row page passed left step

pub after_erase : (g : Geometry) (s t : Flash) (block : ℕ) (passed : Bool) (left : List Page) → s.geometry ≡ g → Steps s (Erase block passed left) t
    → t.image ≡ image_after g.pages s.image (Erase block passed left)
unfolding image_after
after_erase g s t block passed left same step = image-erase s t block passed left step ∙ ap (λ (h : Geometry). with_block h.pages block left s.image) same

module _ (g : Geometry) (capacity : ℕ) (is_so : ℕ → List ℕ → Type 0) where
  -- A DIE BEFORE OPERATIONS: its image is by the accounts of its blocks, pages were programmed alone since what lasts, and each image that a stop in the operations may leave stands
  pub record Goes (s : Flash) (accounts : List Account) (next : ℕ) (log : List Operation) (stored : Image) : Type 0 where
    pub sized : s.geometry ≡ g
    pub fits : Fits g.pages s.image accounts next
    pub whole : IsImage g s.image
    pub moments : (left : Image) → MayLeave g s.image log left → Stands g capacity is_so left
    pub since : GrewSince g is_so stored s.image

  stands_now : (s : Flash) (accounts : List Account) (next : ℕ) (log : List Operation) (stored : Image) → Goes s accounts next log stored → Stands g capacity is_so s.image
  stands_now s accounts next log stored goes = goes.moments s.image (record { whole = goes.whole; by = between g.pages s.image [] log })

  -- what stands after one operation is what a stop later on may leave
  moments_after : (image now : Image) (op : Operation) (log : List Operation) → now ≡ image_after g.pages image op
      → ((left : Image) → MayLeave g image (op ∷ log) left → Stands g capacity is_so left) → (left : Image) → MayLeave g now log left → Stands g capacity is_so left
  moments_after image now op log is moments left m = moments left (record { whole = m.whole; by = inr (subst (λ i. LeftBy g.pages i log left) is m.by) })

  whole_after : (s t : Flash) (op : Operation) → s.geometry ≡ g → Steps s op t → IsImage g s.image → IsImage g t.image
  whole_after s t op same step whole = subst (λ h. IsImage h t.image) same (image_stays s t op step (subst (λ h. IsImage h s.image) (sym same) whole))

  module _ (s t : Flash) (row : ℕ) (page left : Page) (passed : Bool) (accounts : List Account) (next : ℕ) (log : List Operation) (stored : Image)
      (goes : Goes s accounts next (Program row page passed left ∷ log) stored) (step : Steps s (Program row page passed left) t) (due : IsDueProgram g.pages accounts row)
      (numbered : IsSomeAnd (record_of page) (λ (r : Record). r.sequence ≡ next)) where
    due_here : IsDueProgram s.geometry.pages accounts row
    due_here = subst (λ (h : Geometry). IsDueProgram h.pages accounts row) (sym goes.sized) due

    fits_here : Fits s.geometry.pages s.image accounts next
    fits_here = subst (λ (h : Geometry). Fits h.pages s.image accounts next) (sym goes.sized) goes.fits

    pub none_here : IsUnsoundAt s.image row
    none_here = unsound s t row page left passed accounts next step due_here numbered fits_here

    pub program_goes : Goes t (accounted g.pages accounts (Program row page passed left)) (next + 1) log stored
    program_goes =
        let is : t.image ≡ set s.image row left = image-program s t row page passed left step in
        let whole = whole_after s t (Program row page passed left) goes.sized step goes.whole in
        let moments = moments_after s.image t.image (Program row page passed left) log (after_program g.pages s t row page left passed step) goes.moments in
        let stands : Stands g capacity is_so t.image = moments t.image (record { whole = whole; by = between g.pages t.image [] log }) in
        let newest_is : IsLeftNewest t.image row left = left_newest s t row page left passed accounts next step due_here numbered fits_here in
        record {
          sized = geometry-Steps s t (Program row page passed left) step ∙ goes.sized;
          fits = subst (λ (h : Geometry). Fits h.pages t.image (accounted h.pages accounts (Program row page passed left)) (next + 1)) goes.sized
              (program_fits s t row page left passed accounts next step due_here numbered fits_here);
          whole = whole;
          moments = moments;
          since = subst (GrewSince g is_so stored) (sym is)
              (since_program g capacity is_so stored s.image row left goes.since none_here (subst (λ i. IsLeftNewest i row left) is newest_is) (subst (Stands g capacity is_so) is stands));
        }

  module _ (s t : Flash) (block : ℕ) (passed : Bool) (left : List Page) (accounts : List Account) (next : ℕ) (log : List Operation) (stored : Image)
      (goes : Goes s accounts next (Erase block passed left ∷ log) stored) (step : Steps s (Erase block passed left) t) (due : IsDueErase accounts block) where
    pub erase_goes : Goes t (accounted g.pages accounts (Erase block passed left)) next log t.image
    erase_goes =
        let whole = whole_after s t (Erase block passed left) goes.sized step goes.whole in
        let moments = moments_after s.image t.image (Erase block passed left) log (after_erase g s t block passed left goes.sized step) goes.moments in
        let fits_here : Fits s.geometry.pages s.image accounts next = subst (λ (h : Geometry). Fits h.pages s.image accounts next) (sym goes.sized) goes.fits in
        record {
          sized = geometry-Steps s t (Erase block passed left) step ∙ goes.sized;
          fits = subst (λ (h : Geometry). Fits h.pages t.image (accounted h.pages accounts (Erase block passed left)) next) goes.sized (erase_fits s t block passed left accounts next step due fits_here);
          whole = whole;
          moments = moments;
          since = since_begin g capacity is_so t.image (moments t.image (record { whole = whole; by = between g.pages t.image [] log }));
        }

  -- ---- a log

  pub lost : (log : List Operation) (s t : Flash) (accounts : List Account) (next : ℕ) (stored found : Image) → Goes s accounts next log stored → Leads s log t → LegalFrom g.pages accounts log
      → NumbersFrom next log → IsImage g found → LostBy g.pages stored s.image log found → IsFound g is_so found
  lost [] s t accounts next stored found goes leads legal numbers whole by =
      found_lost g capacity is_so stored s.image found goes.whole (stands_now s accounts next [] stored goes) goes.since by
  lost (Program row page passed left ∷ log) s t accounts next stored found goes (mid, step, leads) legal numbers whole (inl torn) =
      found_lost g capacity is_so stored s.image found goes.whole (stands_now s accounts next _ stored goes) goes.since
      (torn_program g capacity is_so stored s.image found row page left passed goes.since.grows (none_here s mid row page left passed accounts next log stored goes step legal.0 numbers.0) torn)
  lost (Program row page passed left ∷ log) s t accounts next stored found goes (mid, step, leads) legal numbers whole (inr later) =
      lost log mid t (accounted g.pages accounts (Program row page passed left)) (next + 1) stored found
      (program_goes s mid row page left passed accounts next log stored goes step legal.0 numbers.0) leads legal.1 numbers.1 whole
      (subst (λ i. LostBy g.pages stored i log found) (sym (after_program g.pages s mid row page left passed step)) later)
  lost (Erase block passed left ∷ log) s t accounts next stored found goes (mid, step, leads) legal numbers whole (inl before) =
      found_lost g capacity is_so stored s.image found goes.whole (stands_now s accounts next _ stored goes) goes.since before
  lost (Erase block passed left ∷ log) s t accounts next stored found goes (mid, step, leads) legal numbers whole (inr (inl torn)) =
      found_stop g capacity is_so found whole (goes.moments found (record { whole = whole; by = inl torn }))
  lost (Erase block passed left ∷ log) s t accounts next stored found goes (mid, step, leads) legal numbers whole (inr (inr later)) =
      let is : image_after g.pages s.image (Erase block passed left) ≡ mid.image = sym (after_erase g s mid block passed left goes.sized step) in
      lost log mid t (accounted g.pages accounts (Erase block passed left)) next mid.image found (erase_goes s mid block passed left accounts next log stored goes step legal.0) leads legal.1 numbers whole
      (subst (λ i. LostBy g.pages i i log found) is later)

  -- and after all of it
  pub grew : (log : List Operation) (s t : Flash) (accounts : List Account) (next : ℕ) (stored : Image) → Goes s accounts next log stored → Leads s log t → LegalFrom g.pages accounts log
      → NumbersFrom next log → GrewSince g is_so (lasts_after g.pages stored s.image log) t.image
  grew [] s t accounts next stored goes leads legal numbers = subst (λ (u : Flash). GrewSince g is_so stored u.image) (sym leads) goes.since
  grew (Program row page passed left ∷ log) s t accounts next stored goes (mid, step, leads) legal numbers =
      subst (λ i. GrewSince g is_so (lasts_after g.pages stored i log) t.image) (after_program g.pages s mid row page left passed step)
      (grew log mid t (accounted g.pages accounts (Program row page passed left)) (next + 1) stored
      (program_goes s mid row page left passed accounts next log stored goes step legal.0 numbers.0) leads legal.1 numbers.1)
  grew (Erase block passed left ∷ log) s t accounts next stored goes (mid, step, leads) legal numbers =
      subst (λ i. GrewSince g is_so (lasts_after g.pages i i log) t.image) (after_erase g s mid block passed left goes.sized step)
      (grew log mid t (accounted g.pages accounts (Erase block passed left)) next mid.image (erase_goes s mid block passed left accounts next log stored goes step legal.0) leads legal.1 numbers)
