-- Free, good and failed blocks, counted by the image and the log.
use Rattle.std.proofs.Common.{◌≡◌, ℕ, zero, suc, ◌+◌, ◌*◌, ◌<◌, ◌≤◌, Bool, true, false, not, ◌==◌, ◌&&◌, ◌||◌, ◌⊎◌, List, [], ◌∷◌}
use Rattle.std.proofs.Common.{slice_get, get_or, Option, Some, None, IsSome, refl, sym, ap, subst, ◌∙◌, inl, inr, arith}
use Rattle.std.specs.Prelude.{count_by}
use Rattle.std.specs.List.{list_all, range_with_len}
use Rattle.std.proofs.lemmas.Bool.{cases_Bool, cases_lt, ne_eqb, eq-eqb}
use Rattle.std.proofs.lemmas.List.Folds.{list_all_at}
use Rattle.std.proofs.lemmas.Option.{get_or_from_slice_get, slice_get_within}
use Rattle.page_layout.specs.declared.geometry.Geometry.{Geometry}
use Rattle.page_layout.specs.Page.{Page, Image, IsImage}
use Rattle.page_layout.specs.Sound.{is_erased_page}
use Rattle.page_layout.specs.Array.{marks}
use Rattle.page_layout.specs.Block.{block_pages}
use Rattle.page_layout.specs.Geometry.{need_at}
use Rattle.page_layout.specs.Flash.{Operation, no_page}
use Rattle.page_layout.proofs.CountLemmas.{bit, count_by-cons}
use Rattle.page_layout.proofs.ErasedLemmas.{erased_at_unsound}
use Rattle.bad_blocks.specs.Table.{is_good_at, good_count}
use Rattle.allocation.specs.State as blocks
use Rattle.allocation.specs.State.{State, AreBlocksSafe, free_count, pointer_at}
use Rattle.allocation.proofs.TallyLemmas.{good_by_number}
use Rattle.promises.specs.Log as logs
use Rattle.promises.specs.Log.{bad_of, failed_in, failed_count, IsShort}
use Rattle.image_check.proofs.LookLemmas.{block_page, block_short}
use Rattle.collection.specs.State.{Ram}
use Rattle.collection.specs.Safe.{IsRam}
use Rattle.collection.specs.Truth.{IsTrue, AreFilled}
use Rattle.collection.specs.Log.{FollowsLog}
use Rattle.ftl_device.specs.Calls.{IsShortOf}
use Rattle.ftl_device.specs.Shortage.{LacksGood}
use Rattle.ftl_device.specs.Counts.{is_bad_by, IsShortIn, FreeNowLaw, GoodNowLaw, BadNowLaw, ShortOfBlocksLaw}
use Rattle.ftl_device.proofs.BlockLemmas.{count_same, page_there}
use Rattle.ftl_device.proofs.AccountLemmas.{bad_after, failed_good}

-- ---- free blocks

all_erased : (ps : List Page) → ((k : ℕ) (q : Page) → slice_get ps k ≡ Some q → is_erased_page q ≡ true) → list_all is_erased_page ps ≡ true
all_erased [] each = refl
all_erased (p ∷ ps) each = ap (λ b. b && list_all is_erased_page ps) (each 0 p refl) ∙ all_erased ps (λ k q at. each (suc k) q at)

free_by_pages : (good zero_pointer all : Bool) → (good ≡ true → zero_pointer ≡ all) → (good && zero_pointer) ≡ (not (not good || false) && all)
free_by_pages true z all same = same refl
free_by_pages false z all same = refl

module _ (s : State) (free : ℕ) (image : Image) (safe : AreBlocksSafe free s) (whole : IsImage s.geometry image) (filled : AreFilled image s) where
  -- no page of a good block is programmed where its pointer is 0
  blank : (b : ℕ) → b < s.geometry.blocks → is_good_at s.table b ≡ true → pointer_at s b ≡ 0 → list_all is_erased_page (block_pages s.geometry image b) ≡ true
  blank b lt good none = all_erased (block_pages s.geometry image b) (λ k q at.
      let in_block : k < s.geometry.pages = omega (arith, slice_get_within (block_pages s.geometry image b) k q at, block_short s.geometry image b) in
      let here = filled.erased b k lt good (omega arith) in_block in
      let same : Some q ≡ Some here.its = sym at ∙ (block_page s.geometry image b k (b * s.geometry.pages + k) refl in_block ∙ here.at) in
      let one : q ≡ here.its = cc in
      ap is_erased_page one ∙ here.is)

  -- and its first page is where the pointer is not
  begun : (b : ℕ) → b < s.geometry.blocks → is_good_at s.table b ≡ true → 0 < pointer_at s b → list_all is_erased_page (block_pages s.geometry image b) ≡ false
  begun b lt good some =
      let in_block : 0 < s.geometry.pages = omega (arith, safe.pointers b lt) in
      let row : ℕ = b * s.geometry.pages + 0 in
      let its : Page = get_or image row no_page in
      let at : slice_get image row ≡ Some its = page_there s.geometry image b 0 whole lt in_block in
      let there : slice_get (block_pages s.geometry image b) 0 ≡ Some its = block_page s.geometry image b 0 row refl in_block ∙ at in
      let not_erased : is_erased_page its ≡ false = elim (cases_Bool (is_erased_page its)) [
        | inl erased ↦
            let unsound : get_or (marks image) row None ≡ None = erased_at_unsound s.geometry image row whole (record { its = its; at = at; is = erased }) in
            let sound : IsSome (get_or (marks image) row None) = filled.sound b 0 lt good some in
            absurd (none_some (get_or (marks image) row None) unsound sound)
        | inr filled_here ↦ filled_here
      ] in
      list_all_at is_erased_page (block_pages s.geometry image b) 0 no_page (slice_get_within (block_pages s.geometry image b) 0 its there) (ap is_erased_page (get_or_from_slice_get (block_pages s.geometry image b) 0 its no_page there) ∙ not_erased)
    where
      none_some : {X : Type 0} (o : Option X) → o ≡ None → IsSome o → ⊥
      none_some None e some_here = (let no : ⊥ = cc in no)
      none_some (Some x) e some_here = (let no : ⊥ = cc in no)

  free_at : (b : ℕ) → b < s.geometry.blocks → blocks.is_free s b ≡ logs.free_of s.geometry (λ k. not (is_good_at s.table k)) [] image b
  free_at b lt = free_by_pages (is_good_at s.table b) (pointer_at s b == 0) (list_all is_erased_page (block_pages s.geometry image b)) (λ good. elim (cases_lt 0 (pointer_at s b)) [
    | inl some ↦ ne_eqb (pointer_at s b) 0 (λ e. (let no : ⊥ = omega arith in no)) ∙ sym (begun b lt good some)
    | inr none ↦ (let zero_is : pointer_at s b ≡ 0 = omega arith in eq-eqb (pointer_at s b) 0 zero_is ∙ sym (blank b lt good zero_is))
  ])

  free_now : free_count s ≡ logs.free_count_after s.geometry (λ k. not (is_good_at s.table k)) [] image
  free_now = count_same (blocks.is_free s) (logs.free_of s.geometry (λ k. not (is_good_at s.table k)) [] image) 0 s.geometry.blocks (λ b low high. free_at b (omega arith))

pub free_now_law : FreeNowLaw
free_now_law r image safe w =
    subst (λ (g : Geometry). free_count r.blocks ≡ logs.free_count_after g (is_bad_by r) [] image) safe.blocks_of
    (free_now r.blocks (free_count r.blocks) image safe.blocks (subst (λ (g : Geometry). IsImage g image) (sym safe.blocks_of) w.whole) w.filled)

-- ---- good blocks

good_again : (b : Bool) → b ≡ not (not b || false)
good_again true = refl
good_again false = refl

pub good_now_law : GoodNowLaw
good_now_law r safe =
    let size = safe.blocks.table_whole in
    let blocks_same : r.blocks.geometry.blocks ≡ r.geometry.blocks = ap (λ (g : Geometry). g.blocks) safe.blocks_of in
    sym (good_by_number r.blocks.table)
    ∙ (ap (λ n. count_by (is_good_at r.blocks.table) (range_with_len 0 n)) (size ∙ blocks_same)
    ∙ count_same (is_good_at r.blocks.table) (logs.good_of r.geometry.pages (is_bad_by r) []) 0 r.geometry.blocks (λ b low high. good_again (is_good_at r.blocks.table b)))

-- ---- after a log

pub bad_now_law : BadNowLaw
bad_now_law old new log b same follows lt = bad_after old.geometry.pages log old.blocks new.blocks follows b (subst (λ (g : Geometry). b < g.blocks) (sym same) lt)

-- ---- a shortage

count_sum : (p q r : ℕ → Bool) (a n : ℕ) → ((k : ℕ) → a ≤ k → k < a + n → bit (p k) ≡ bit (q k) + bit (r k)) → count_by p (range_with_len a n) ≡ count_by q (range_with_len a n) + count_by r (range_with_len a n)
count_sum p q r a zero each = refl
count_sum p q r a (suc n) each =
    let here = each a (omega arith) (omega arith) in
    let rest = count_sum p q r (a + 1) n (λ k low high. each k (omega arith) (omega arith)) in
    omega (arith, count_by-cons p a (range_with_len (a + 1) n), count_by-cons q a (range_with_len (a + 1) n), count_by-cons r a (range_with_len (a + 1) n))

split_bits : (old new failed : Bool) → not new ≡ (not old || failed) → (not old ≡ true → failed ≡ false) → bit old ≡ bit new + bit failed
split_bits true true true is never = (let no : false ≡ true = is in absurd (let none : ⊥ = cc in none))
split_bits true true false is never = refl
split_bits true false true is never = refl
split_bits true false false is never = (let no : true ≡ false = is in absurd (let none : ⊥ = cc in none))
split_bits false true failed is never = (let no : false ≡ true = is in absurd (let none : ⊥ = cc in none))
split_bits false false true is never = (let no : true ≡ false = never refl in absurd (let none : ⊥ = cc in none))
split_bits false false false is never = refl

-- the good blocks before a log are those after it and those that failed in it
pub failed_counted : (old new : Ram) (log : List Operation) → IsRam old → IsRam new → new.geometry ≡ old.geometry → FollowsLog old.geometry.pages log old.blocks new.blocks → good_count old.blocks.table ≡ good_count new.blocks.table + failed_count old.geometry log
failed_counted old new log safe safe' same follows =
    let n : ℕ = old.geometry.blocks in
    let old_size = safe.blocks.table_whole ∙ ap (λ (g : Geometry). g.blocks) safe.blocks_of in
    let new_size = safe'.blocks.table_whole ∙ (ap (λ (g : Geometry). g.blocks) safe'.blocks_of ∙ ap (λ (g : Geometry). g.blocks) same) in
    let old_is : count_by (is_good_at old.blocks.table) (range_with_len 0 n) ≡ good_count old.blocks.table = ap (λ k. count_by (is_good_at old.blocks.table) (range_with_len 0 k)) (sym old_size) ∙ good_by_number old.blocks.table in
    let new_is : count_by (is_good_at new.blocks.table) (range_with_len 0 n) ≡ good_count new.blocks.table = ap (λ k. count_by (is_good_at new.blocks.table) (range_with_len 0 k)) (sym new_size) ∙ good_by_number new.blocks.table in
    let sum = count_sum (is_good_at old.blocks.table) (is_good_at new.blocks.table) (failed_in old.geometry.pages log) 0 n (λ b low high.
    let lt : b < old.blocks.geometry.blocks = subst (λ (g : Geometry). b < g.blocks) (sym safe.blocks_of) (omega arith) in
    split_bits (is_good_at old.blocks.table b) (is_good_at new.blocks.table b) (failed_in old.geometry.pages log b) (bad_after old.geometry.pages log old.blocks new.blocks follows b lt) (failed_good old.geometry.pages log old.blocks new.blocks follows b lt)) in
    sym old_is ∙ (sum ∙ ap (λ k. k + failed_count old.geometry log) new_is)

-- the blocks that are bad by a log are those of the memory after it
module _ (g : Geometry) (bad : ℕ → Bool) (log : List Operation) (new : Ram) (image : Image) (same : new.geometry ≡ g) (bads : (b : ℕ) → b < g.blocks → is_bad_by new b ≡ bad_of g.pages bad log b) where
  or_none : (x : Bool) → (x || false) ≡ x
  or_none true = refl
  or_none false = refl

  good_so : (b : ℕ) → b < g.blocks → not (is_bad_by new b || false) ≡ not (bad_of g.pages bad log b)
  good_so b lt = ap not (or_none (is_bad_by new b) ∙ bads b lt)

  pub good_of_log : logs.good_count_after g (is_bad_by new) [] ≡ logs.good_count_after g bad log
  good_of_log = count_same (logs.good_of g.pages (is_bad_by new) []) (logs.good_of g.pages bad log) 0 g.blocks (λ b low high. good_so b (omega arith))

  free_of_log : logs.free_count_after g (is_bad_by new) [] image ≡ logs.free_count_after g bad log image
  free_of_log = count_same (logs.free_of g (is_bad_by new) [] image) (logs.free_of g bad log image) 0 g.blocks (λ b low high. ap (λ x. x && list_all is_erased_page (block_pages g image b)) (good_so b (omega arith)))

  pub short_in : (old : Ram) (call : List Operation) (good wanted failed : ℕ) → IsRam old → IsRam new → old.geometry ≡ g → FollowsLog g.pages call old.blocks new.blocks → IsTrue None new image → IsShortOf old new good wanted failed → IsShortIn g new.mapping.share bad log call image good wanted failed
  short_in old call good wanted failed safe safe' was follows w short =
      let free : free_count new.blocks ≡ logs.free_count_after g bad log image = subst (λ (h : Geometry). free_count new.blocks ≡ logs.free_count_after h (is_bad_by new) [] image) same (free_now_law new image safe' w) ∙ free_of_log in
      let many : good_count new.blocks.table ≡ logs.good_count_after g bad log = subst (λ (h : Geometry). good_count new.blocks.table ≡ logs.good_count_after h (is_bad_by new) []) same (good_now_law new safe') ∙ good_of_log in
      let fails : good_count old.blocks.table ≡ good_count new.blocks.table + failed_count g call =
      subst (λ (h : Geometry). good_count old.blocks.table ≡ good_count new.blocks.table + failed_count h call) was (failed_counted old new call safe safe' (same ∙ sym was) (subst (λ (h : Geometry). FollowsLog h.pages call old.blocks new.blocks) (sym was) follows)) in
      record {
        scarce = subst (λ n. n < 5) free short.scarce;
        good_is = short.good_is ∙ many;
        wanted_is = short.wanted_is ∙ ap (λ h. need_at h new.mapping.share) same;
        failed_is = omega (arith, short.failed_is, short.good_is, fails);
      }

  -- fewer good blocks than are asked for, or three that failed
  pub lacks_in : (old : Ram) (call : List Operation) → IsRam old → IsRam new → old.geometry ≡ g → FollowsLog g.pages call old.blocks new.blocks → LacksGood old new → (logs.good_count_after g bad log < need_at g old.mapping.share) ⊎ (2 < failed_count g call)
  lacks_in old call safe safe' was follows lacks =
      let many : good_count new.blocks.table ≡ logs.good_count_after g bad log = subst (λ (h : Geometry). good_count new.blocks.table ≡ logs.good_count_after h (is_bad_by new) []) same (good_now_law new safe') ∙ good_of_log in
      let fails : good_count old.blocks.table ≡ good_count new.blocks.table + failed_count g call =
      subst (λ (h : Geometry). good_count old.blocks.table ≡ good_count new.blocks.table + failed_count h call) was (failed_counted old new call safe safe' (same ∙ sym was) (subst (λ (h : Geometry). FollowsLog h.pages call old.blocks new.blocks) (sym was) follows)) in
      let needed : need_at old.geometry old.mapping.share ≡ need_at g old.mapping.share = ap (λ h. need_at h old.mapping.share) was in
      elim lacks [ inl few ↦ inl (omega arith) | inr three ↦ inr (omega arith) ]

pub short_law : ShortOfBlocksLaw
short_law old new log image good wanted failed safe safe' same share follows w short =
    subst (λ n. IsShortIn old.geometry n (is_bad_by old) log log image good wanted failed) share
    (short_in old.geometry (is_bad_by old) log new image same (λ b lt. bad_now_law old new log b safe.blocks_of follows lt) old log good wanted failed safe safe' refl follows w short)

-- ---- a shortage, before other logs

module _ (old new : Ram) (call : List Operation) (safe : IsRam old) (safe' : IsRam new) (sized : new.geometry ≡ old.geometry) (follows : FollowsLog old.geometry.pages call old.blocks new.blocks) where
  pub bads : (b : ℕ) → b < old.geometry.blocks → is_bad_by new b ≡ bad_of old.geometry.pages (is_bad_by old) call b
  bads b lt = bad_now_law old new call b safe.blocks_of follows lt

  -- of the call alone
  pub lacks_short : (ro : Bool) → LacksGood old new → IsShort old.geometry old.mapping.share (is_bad_by old) [] call ro
  lacks_short ro lacks = elim (lacks_in old.geometry (is_bad_by old) call new [] sized bads old call safe safe' refl follows lacks) [ inl few ↦ inl few | inr three ↦ inr (inl three) ]
