-- Dies that stay whole, and what records tell of them.
use Rattle.std.proofs.Common.{◌≡◌, inl, inr, ℕ, ◌/◌, Bool, List, [], ◌∷◌, ◌++◌, length, get_or, set, Option, Some, None, refl, sym, ◌∙◌, ap, subst, arith}
use Rattle.std.specs.Prelude.{slice_get, unwrap_or, IsSome, IfSome}
use Rattle.std.proofs.lemmas.Bool.{cases_eq}
use Rattle.std.proofs.lemmas.List.{append-nil, length-set, append_assoc, append_cancel_left}
use Rattle.std.proofs.lemmas.Option.{get_or_from_slice_get}
use Rattle.page_layout.specs.declared.geometry.Geometry.{Geometry}
use Rattle.page_layout.specs.Page.{Page, Image, IsPage, IsImage}
use Rattle.page_layout.specs.Flash.{Flash, Operation, Program, Erase, no_page, after, with_block, Steps, Leads, IsWhole}
use Rattle.page_layout.specs.Recording.{Recording, Records, hand_after, noted, image_after, image_after_all, IsRecordOf, RecordStaysLaw, RecordsJoinLaw, EndsJoinLaw, ToldOnLaw, RanOn, RanOnLaw, cut_at, EndsAt, OneCutLaw}
use Rattle.page_layout.specs.StepLaws.{WholeStaysLaw}
use Rattle.page_layout.proofs.ArrayLemmas.{slice_get-set_same}
use Rattle.page_layout.proofs.FlashLemmas.{geometry-Steps, image-program, image-erase, program_other, erase_loses, with_block-inside, inside}

-- ---- dies that stay whole

next_pages-program : (s t : Flash) (row : ℕ) (page : Page) (passed : Bool) (left : Page) → Steps s (Program row page passed left) t → length t.next_pages ≡ length s.next_pages
unfolding after
next_pages-program s t row page passed left steps = ap (λ (u : Flash). length u.next_pages) steps.left ∙ length-set s.next_pages _ _

next_pages-erase : (s t : Flash) (block : ℕ) (passed : Bool) (left : List Page) → Steps s (Erase block passed left) t → length t.next_pages ≡ length s.next_pages
unfolding after
next_pages-erase s t block passed left steps = ap (λ (u : Flash). length u.next_pages) steps.left ∙ length-set s.next_pages _ _

whole_program : (s t : Flash) (row : ℕ) (p : Page) (passed : Bool) (left : Page) → Steps s (Program row p passed left) t → IsImage s.geometry s.image → IsImage s.geometry t.image
whole_program s t row p passed left steps w =
    let now : t.image ≡ set s.image row left = image-program s t row p passed left steps in
    record {
      rows = ap length now ∙ (length-set s.image row left ∙ w.rows);
      pages = λ r q is. elim (cases_eq r row) [
        | inl same ↦
            let here : slice_get t.image row ≡ Some left = ap (λ i. slice_get i row) now ∙ slice_get-set_same s.image row left steps.lawful.in_range in
            subst (IsPage s.geometry) (ap (λ o. unwrap_or o left) (sym here ∙ (ap (slice_get t.image) (sym same) ∙ is))) steps.lawful.sized
        | inr ne ↦ w.pages r q (sym (program_other s t row r p left passed steps ne) ∙ is)
      ];
    }

whole_erase : (s t : Flash) (block : ℕ) (passed : Bool) (left : List Page) → Steps s (Erase block passed left) t → IsImage s.geometry s.image → IsImage s.geometry t.image
whole_erase s t block passed left steps w =
    let pages : ℕ = s.geometry.pages in
    let lost = erase_loses s t block passed left steps in
    let now : t.image ≡ with_block pages block left s.image = image-erase s t block passed left steps in
    record {
      rows = lost.length_same ∙ w.rows;
      pages = λ r q is. elim (cases_eq (r / pages) block) [
        | inl here ↦
            let k = inside pages block r (omega (arith, s.geometry.limits.page_count.least)) here in
            let at : get_or t.image r no_page ≡ get_or left k.0 no_page =
            ap (λ i. get_or i r no_page) now ∙ (ap (λ n. get_or (with_block pages block left s.image) n no_page) k.2 ∙ with_block-inside pages block k.0 left s.image steps.lawful.size steps.lawful.in_image k.1) in
            subst (IsPage s.geometry) (sym at ∙ get_or_from_slice_get t.image r q no_page is) (steps.lawful.sized k.0 k.1)
        | inr ne ↦ w.pages r q (sym (lost.others r ne) ∙ is)
      ];
    }

-- the image stays one of the die
pub image_stays : (s t : Flash) (op : Operation) → Steps s op t → IsImage s.geometry s.image → IsImage s.geometry t.image
image_stays s t (Program row p passed left) steps w = whole_program s t row p passed left steps w
image_stays s t (Erase block passed left) steps w = whole_erase s t block passed left steps w

whole_after : (s t : Flash) → t.geometry ≡ s.geometry → length t.next_pages ≡ length s.next_pages → IsImage s.geometry t.image → IsWhole s → IsWhole t
whole_after s t same next_pages image w = record {
  image_whole = subst (λ g. IsImage g t.image) (sym same) image;
  next_pages_whole = next_pages ∙ (w.next_pages_whole ∙ ap (λ (g : Geometry). g.blocks) (sym same));
}

pub whole_steps : (s t : Flash) (op : Operation) → Steps s op t → IsWhole s → IsWhole t
whole_steps s t (Program row p passed left) steps w = whole_after s t (geometry-Steps s t (Program row p passed left) steps) (next_pages-program s t row p passed left steps) (whole_program s t row p passed left steps w.image_whole) w
whole_steps s t (Erase block passed left) steps w = whole_after s t (geometry-Steps s t (Erase block passed left) steps) (next_pages-erase s t block passed left steps) (whole_erase s t block passed left steps w.image_whole) w

pub whole_leads : WholeStaysLaw
whole_leads a b [] leads w = subst IsWhole (sym leads) w
whole_leads a b (op ∷ ops) leads w = whole_leads leads.0 b ops leads.2 (whole_steps a leads.0 op leads.1 w)

-- ---- records

after-image : (s : Flash) (op : Operation) → (after s op).image ≡ image_after s.geometry.pages s.image op
unfolding after image_after
after-image s (Program row page passed left) = refl
after-image s (Erase block passed left) = refl

image-steps : (s t : Flash) (op : Operation) → Steps s op t → t.image ≡ image_after s.geometry.pages s.image op
image-steps s t op steps = ap (λ (u : Flash). u.image) steps.left ∙ after-image s op

image-leads : (s t : Flash) (log : List Operation) (pages : ℕ) → s.geometry.pages ≡ pages → Leads s log t → t.image ≡ image_after_all pages s.image log
image-leads s t [] pages same leads = ap (λ (u : Flash). u.image) leads
image-leads s t (op ∷ log) pages same leads =
    let mid : Flash = leads.0 in
    let at : mid.image ≡ image_after pages s.image op = image-steps s mid op leads.1 ∙ ap (λ n. image_after n s.image op) same in
    image-leads mid t log pages (ap (λ (g : Geometry). g.pages) (geometry-Steps s mid op leads.1) ∙ same) leads.2 ∙ ap (λ i. image_after_all pages i log) at

pages-leads : (s t : Flash) (log : List Operation) → Leads s log t → t.geometry.pages ≡ s.geometry.pages
pages-leads s t [] leads = ap (λ (u : Flash). u.geometry.pages) leads
pages-leads s t (op ∷ log) leads = pages-leads leads.0 t log leads.2 ∙ ap (λ (g : Geometry). g.pages) (geometry-Steps s leads.0 op leads.1)

all_then : (pages : ℕ) (image : Image) (xs ys : List Operation) → image_after_all pages image (xs ++ ys) ≡ image_after_all pages (image_after_all pages image xs) ys
all_then pages image [] ys = refl
all_then pages image (x ∷ xs) ys = all_then pages (image_after pages image x) xs ys

noted_stays : (s t : Flash) (log : List Operation) (told : Option Recording) → Leads s log t → IsRecordOf s told → IsRecordOf t (noted log told)
noted_stays s t log None leads is = is
noted_stays s t log (Some r) leads is =
    let pages : ℕ = s.geometry.pages in
    image-leads s t log pages refl leads ∙ (ap (λ i. image_after_all pages i log) is ∙ (sym (all_then pages r.image r.log log) ∙ ap (λ n. image_after_all n r.image (r.log ++ log)) (sym (pages-leads s t log leads))))

pub record_stays : RecordStaysLaw
record_stays s t log told told' leads is (inl none) = subst (IsRecordOf t) (sym none) tt
record_stays s t log told told' leads is (inr on) = subst (IsRecordOf t) (sym on) (noted_stays s t log told leads is)

hand-none : (hand : List Operation) → hand_after hand [] ≡ hand
hand-none [] = refl
hand-none (op ∷ ops) = ap (λ l. op ∷ l) (append-nil ops)

hand-then : (hand xs ys : List Operation) → hand_after (hand_after hand xs) ys ≡ hand_after hand (xs ++ ys)
hand-then [] xs ys = refl
hand-then (op ∷ ops) xs ys = ap (λ l. op ∷ l) (append_assoc ops xs ys)

-- nothing was done: the record gained nothing
pub records_none : (told : Option Recording) → Records told [] told
records_none None = refl
records_none (Some r) = ap (λ l. Some (record { image = r.image; log = l; at_hand = r.at_hand })) (sym (append-nil r.log))
    ∙ ap (λ h. Some (record { image = r.image; log = r.log ++ []; at_hand = h })) (sym (hand-none r.at_hand))

noted_then : (a : Option Recording) (xs ys : List Operation) → noted ys (noted xs a) ≡ noted (xs ++ ys) a
noted_then None xs ys = refl
noted_then (Some r) xs ys = ap (λ l. Some (record { image = r.image; log = l; at_hand = hand_after (hand_after r.at_hand xs) ys })) (append_assoc r.log xs ys)
    ∙ ap (λ h. Some (record { image = r.image; log = r.log ++ (xs ++ ys); at_hand = h })) (hand-then r.at_hand xs ys)

pub records_join : RecordsJoinLaw
records_join a b c xs ys first on = on ∙ (ap (noted ys) first ∙ noted_then a xs ys)

pub ends_join : EndsJoinLaw
ends_join a b c xs ys one (inl none) = inl none
ends_join a b c xs ys (inl none) (inr on) = inl (on ∙ ap (noted ys) none)
ends_join a b c xs ys (inr first) (inr on) = inr (records_join a b c xs ys first on)

pub told_on : ToldOnLaw
told_on None new log is = ((λ some. cc), λ some. subst IsSome is some)
told_on (Some r) new log is = ((λ some. subst IsSome (sym is) refl), λ some. refl)

noted_ran : (old : Option Recording) (log : List Operation) (r : Recording) → noted log old ≡ Some r → RanOn old log r
noted_ran None log r is = cc
noted_ran (Some q) log r is =
    let e : record { image = q.image; log = q.log ++ log; at_hand = hand_after q.at_hand log } ≡ r = ap (λ o. unwrap_or o r) is in
    record {
      before = q;
      was = refl;
      image_same = ap (λ (x : Recording). x.image) (sym e);
      gained = ap (λ (x : Recording). x.log) (sym e);
      hand = ap (λ (x : Recording). x.at_hand) (sym e);
    }

pub ran_on : RanOnLaw
ran_on old new log r (inl none) is = let e : None ≡ Some r = sym none ∙ is in cc
ran_on old new log r (inr on) is = noted_ran old log r (sym on ∙ is)

-- ---- records that a fault cut

-- a call that is cut after what was done
pub cut_then : (a b c : Option Recording) (xs ys these : List Operation) → Records a xs b → EndsAt these (noted ys b) c → EndsAt these (noted (xs ++ ys) a) c
cut_then a b c xs ys these first (inl none) = inl none
cut_then a b c xs ys these first (inr on) = inr (on ∙ ap (cut_at these) (ap (noted ys) first ∙ noted_then a xs ys))

-- the log and what was at hand, read off what is told
cut_log : (r s : Recording) (xs these : List Operation) → Some s ≡ cut_at these (noted xs (Some r)) → s.log ≡ r.log ++ xs
cut_log r s xs [] is = ap (λ o. (unwrap_or o s).log) is
cut_log r s xs (op ∷ ops) is = ap (λ o. (unwrap_or o s).log) is

cut_hand : (r s : Recording) (xs these : List Operation) → r.at_hand ≡ [] → Some s ≡ cut_at these (noted xs (Some r)) → s.at_hand ≡ these
cut_hand r s xs [] none is = ap (λ o. (unwrap_or o s).at_hand) is ∙ ap (λ h. hand_after h xs) none
cut_hand r s xs (op ∷ ops) none is = ap (λ o. (unwrap_or o s).at_hand) is ∙ ap (λ h. hand_after h xs ++ op ∷ ops) none

cut_none : (xs these : List Operation) → cut_at these (noted xs None) ≡ None
cut_none xs [] = refl
cut_none xs (op ∷ ops) = refl

pub one_cut : OneCutLaw
one_cut told None xs ys these those some clean one two = cc
one_cut told (Some s) xs ys these those some clean (inl never) two = cc
one_cut told (Some s) xs ys these those some clean (inr one) (inl never) = cc
one_cut None (Some s) xs ys these those some clean (inr one) (inr two) = (let no : Some s ≡ None = one ∙ cut_none xs these in cc)
one_cut (Some r) (Some s) xs ys these those some clean (inr one) (inr two) = (
  append_cancel_left r.log xs ys (sym (cut_log r s xs these one) ∙ cut_log r s ys those two),
  sym (cut_hand r s xs these clean one) ∙ cut_hand r s ys those clean two,
)
