-- One page more of a pass.
use Rattle.std.proofs.Common.{◌≡◌, ℕ, ◌+◌, ◌<◌, ◌≤◌, Bool, false, zero, suc, replicate, List, length, refl, arith, ap, sym, subst, ◌∙◌, Option, Some}
use Rattle.std.proofs.Common.{None, Result, Ok, Err, IfOk, IfErr, OnOk, get_or, slice_get}
use Rattle.page_layout.specs.declared.geometry.Geometry.{Geometry}
use Rattle.page_layout.specs.declared.record.Record.{Record}
use Rattle.page_layout.specs.Page.{Page, Image, IsImage}
use Rattle.page_layout.specs.Sound.{record_of}
use Rattle.page_layout.specs.Array.{marks}
use Rattle.page_layout.specs.Flash.{Flash}
use Rattle.page_layout.proofs.ArrayLemmas.{mark-page}
use Rattle.image_check.specs.declared.pass.Pass.{Pass}
use Rattle.std.specs.Prelude.{IsPermutation}
use Rattle.std.specs.List.Sorted.{IsNonDecreasingBy}
use Rattle.page_layout.specs.Geometry.{row_count}
use Rattle.certificate.specs.Claim.{Claim}
use Rattle.image_check.specs.declared.noted_sectors.Noted.{Noted}
use Rattle.image_check.specs.declared.survey.Survey.{Survey}
use Rattle.image_check.specs.declared.refusal.Refusal.{Refusal}
use Rattle.image_check.proofs.ChainLemmas.{hold_one, fails_first, fails_later}
use Rattle.image_check.specs.declared.refusal.Refusal.TheVariants as refusals
use Rattle.image_check.specs.Accepted.{Acceptance, IsAcceptance}
use Rattle.image_check.specs.Agrees.{IsAsked, IsCertificateOf, IsDirectory, AreNewest}
use Rattle.image_check.specs.Noted.{HasNoted, HasSomeNoted}
use Rattle.image_check.specs.Passed.{IsPass, IsSamePass, Shows}
use Rattle.image_check.specs.Refused.{Asked, Directory, Sectors, HoldBetween, FailsFrom, IsFirstWrong}
use Rattle.image_check.specs.Room.{IsScratch}
use Rattle.image_check.specs.Stale.{stale_sectors}
use Rattle.image_check.specs.Surveyed.{IsSized, IsSurvey, Surveys}
use Rattle.image_check.proofs.SurveyLemmas.{passed_first}
use Rattle.image_check.proofs.JudgeLemmas.{too_stale, accepted_is}
use Rattle.image_check.proofs.NotedLemmas.{noted_sectors, count_is, sorted_noted, noted_are_stale}
use Rattle.image_check.specs.Survey.{HasPassed}

pub whole_of : (g : Geometry) (f : Flash) → f.geometry ≡ g → IsImage f.geometry f.image → IsImage g f.image
whole_of g f same h = subst (λ k. IsImage k f.image) same h

pub same_pass : (a b c : Pass) → IsSamePass a b → IsSamePass b c → IsSamePass a c
same_pass a b c h k = record { geometry = k.geometry ∙ h.geometry; certificate = k.certificate ∙ h.certificate }

none_passed : (n i : ℕ) → get_or (replicate n false) i false ≡ false
none_passed zero i = refl
none_passed (suc n) zero = refl
none_passed (suc n) (suc i) = none_passed n i

pub claims_start : (ms : List (Option Record)) (claims : List (Option ℕ)) (passed : List Bool) (n : ℕ) → passed ≡ replicate n false → HasPassed ms 0 claims passed
claims_start ms claims passed n e = passed_first ms claims passed (λ i. ap (λ xs. get_or xs i false) e ∙ none_passed n i)

pub claim_seen : (image : Image) (row : ℕ) (claims : List (Option ℕ)) (old new : List Bool) (p : Page) (found : Option Record) → HasPassed (marks image) row claims old → slice_get image row ≡ Some p → found ≡ record_of p
    → ((ms : List (Option Record)) → HasPassed ms row claims old → get_or ms row None ≡ found → HasPassed ms (row + 1) claims new) → HasPassed (marks image) (row + 1) claims new
claim_seen image row claims old new p found h at is more = more (marks image) h (mark-page image row p at ∙ sym is)

-- ---- the same of a geometry that the survey's is

pub record IsPassOf (g : Geometry) (rows : ℕ) (p : Pass) : Type 0 where
  pub asked : IsAsked g p.certificate.now.capacity p.certificate.now
  pub certificate : IsCertificateOf g p.certificate.now
  pub survey : IsSized g rows p.survey
  pub passed : length p.passed.items ≡ g.sectors
  pub most : p.noted.most ≡ p.certificate.now.capacity
  pub noted : HasSomeNoted g p.certificate.now rows p.noted
  pub scratch : IsScratch g p.scratch

pub pass_of : (g : Geometry) (rows : ℕ) (p : Pass) → p.survey.geometry ≡ g → IsPassOf g rows p → IsPass rows p
pass_of g rows p same h =
    let k : IsPassOf p.survey.geometry rows p = subst (λ x. IsPassOf x rows p) (sym same) h in
    record { asked = k.asked; certificate = k.certificate; survey = k.survey; passed = k.passed; most = k.most; noted = k.noted; scratch = k.scratch }

pub record ShowsOf (g : Geometry) (image : Image) (rows : ℕ) (p : Pass) : Type 0 where
  pub survey : IsSurvey g image rows p.survey
  pub claims : HasPassed (marks image) rows p.certificate.now.sectors p.passed.items
  pub noted : HasNoted g image p.certificate.now rows p.noted

pub shows_of : (g : Geometry) (image : Image) (rows : ℕ) (p : Pass) → p.survey.geometry ≡ g → ShowsOf g image rows p → Shows image rows p
shows_of g image rows p same h =
    let k : ShowsOf p.survey.geometry image rows p = subst (λ x. ShowsOf x image rows p) (sym same) h in
    record { survey = k.survey; claims = k.claims; noted = k.noted }

-- ---- after the last page

stale_noted : (g : Geometry) (capacity : ℕ) (image : Image) (c : Claim) → length image ≡ row_count g → HoldBetween g capacity image c 1 11 → noted_sectors g image c (row_count g) ≡ stale_sectors g image
stale_noted g capacity image c whole h =
    let directory : IsDirectory g image c.directory = h.part Directory (omega arith) (omega arith) in
    let sectors : AreNewest g image c.sectors = h.part Sectors (omega arith) (omega arith) in
    noted_are_stale g image c whole directory sectors

pub finish_stale : (g : Geometry) (capacity : ℕ) (image : Image) (c : Claim) (x : Noted) → IsAsked g capacity c → length image ≡ row_count g
    → HoldBetween g capacity image c 1 11 → HasNoted g image c (row_count g) x → capacity < x.count
    → IsFirstWrong g capacity image c (refusals.TooStale x.count capacity)
finish_stale g capacity image c x asked whole h noted over =
    too_stale g capacity image c (stale_sectors g image) x.count asked h refl (count_is g image c (row_count g) x noted ∙ ap length (stale_noted g capacity image c whole h)) over

pub finish_accepted : (g : Geometry) (capacity : ℕ) (image : Image) (c : Claim) (x : Noted) (ys : List ℕ) (a : Acceptance) → IsAsked g capacity c
    → length image ≡ row_count g → HoldBetween g capacity image c 1 11 → HasNoted g image c (row_count g) x → x.count ≤ x.most
    → x.count ≤ capacity → IsPermutation x.kept.items ys → IsNonDecreasingBy (λ k. k) ys
    → a.claim ≡ c → a.stale ≡ ys → IsAcceptance g capacity image c a
finish_accepted g capacity image c x ys a asked whole h noted fits few moved order claim_is stale_is =
    let are : noted_sectors g image c (row_count g) ≡ stale_sectors g image = stale_noted g capacity image c whole h in
    let is : ys ≡ noted_sectors g image c (row_count g) = sorted_noted g image c (row_count g) x ys noted fits moved order in
    let size : length ys ≡ x.count = ap length is ∙ sym (count_is g image c (row_count g) x noted) in
    accepted_is g capacity image c ys a asked h (is ∙ are) (omega arith) claim_is stale_is

pub surveys_from : (g : Geometry) (image : Image) (s : Survey) → length image ≡ row_count g → IsSurvey g image (row_count g) s → Surveys g image s
surveys_from g image s whole h = record { whole = whole; survey = h }

pub first_wrong : (g : Geometry) (capacity : ℕ) (image : Image) (c : Claim) (r : Refusal) → IsAsked g capacity c → FailsFrom g capacity image c 1 r → IsFirstWrong g capacity image c r
first_wrong g capacity image c r asked f = fails_first g capacity image c r (fails_later g capacity image c 0 1 r (hold_one g capacity image c Asked 0 1 refl refl asked) f)

-- ---- from the end of a pass to the answer of a check

-- it is of the geometry, the capacity and the certificate that were asked for
pub record IsOwn (g : Geometry) (capacity : ℕ) (c : Claim) (p : Pass) : Type 0 where
  pub geometry : p.survey.geometry ≡ g
  pub claim : p.certificate.now ≡ c
  pub capacity_is : c.capacity ≡ capacity

pub own_pass : (g : Geometry) (capacity : ℕ) (c : Claim) (p q : Pass) → IsAsked g capacity c → p.survey.geometry ≡ g → p.certificate.now ≡ c → IsSamePass p q → IsOwn g capacity c q
own_pass g capacity c p q asked geometry claim same = record { geometry = same.geometry ∙ geometry; claim = same.certificate ∙ claim; capacity_is = asked.capacity_same }

-- it has all rows
pub full_pass : (g : Geometry) (p : Pass) → p.survey.geometry ≡ g → IsPass (row_count g) p → IsPass (row_count p.survey.geometry) p
full_pass g p same h = subst (λ n. IsPass n p) (ap row_count (sym same)) h

pub finished_ok : (g : Geometry) (capacity : ℕ) (image : Image) (c : Claim) (p : Pass) (r : Result Acceptance Refusal) → IsOwn g capacity c p → length image ≡ row_count g → Shows image (row_count g) p
    → IfOk r (λ a. (image : Image) → length image ≡ row_count p.survey.geometry → Shows image (row_count p.survey.geometry) p → IsAcceptance p.survey.geometry p.certificate.now.capacity image p.certificate.now a) → IfOk r (IsAcceptance g capacity image c)
finished_ok g capacity image c p (Ok a) own whole shows h =
    let rows : row_count g ≡ row_count p.survey.geometry = ap row_count (sym own.geometry) in
    let found = h image (whole ∙ rows) (subst (λ n. Shows image n p) rows shows) in
    subst (λ n. IsAcceptance g n image c a) own.capacity_is (subst (λ (d : Claim). IsAcceptance g d.capacity image d a) own.claim (subst (λ x. IsAcceptance x p.certificate.now.capacity image p.certificate.now a) own.geometry found))
finished_ok g capacity image c p (Err x) own whole shows h = tt

pub finished_err : (g : Geometry) (capacity : ℕ) (image : Image) (c : Claim) (p : Pass) (r : Result Acceptance Refusal) → IsOwn g capacity c p → length image ≡ row_count g → Shows image (row_count g) p
    → IfErr r (λ x. (image : Image) → length image ≡ row_count p.survey.geometry → Shows image (row_count p.survey.geometry) p → IsFirstWrong p.survey.geometry p.certificate.now.capacity image p.certificate.now x) → IfErr r (IsFirstWrong g capacity image c)
finished_err g capacity image c p (Ok a) own whole shows h = tt
finished_err g capacity image c p (Err r) own whole shows h =
    let rows : row_count g ≡ row_count p.survey.geometry = ap row_count (sym own.geometry) in
    let found = h image (whole ∙ rows) (subst (λ n. Shows image n p) rows shows) in
    subst (λ n. IsFirstWrong g n image c r) own.capacity_is (subst (λ (d : Claim). IsFirstWrong g d.capacity image d r) own.claim (subst (λ x. IsFirstWrong x p.certificate.now.capacity image p.certificate.now r) own.geometry found))

pub rows_of : (g : Geometry) (now first : Flash) → now ≡ first → IsImage g now.image → length first.image ≡ row_count g
rows_of g now first same whole = sym (ap (λ (f : Flash). length f.image) same) ∙ whole.rows

pub err_map : {X Y : Type 0} (P Q : Y → Type 0) (r : Result X Y) → ((y : Y) → P y → Q y) → IfErr r P → IfErr r Q
err_map P Q (Ok a) more h = tt
err_map P Q (Err x) more h = more x h

pub ok_map : {X Y : Type 0} (P Q : Type 0) (r : Result X Y) → (P → Q) → OnOk r P → OnOk r Q
ok_map P Q (Ok a) more h = more h
ok_map P Q (Err x) more h = tt

pub ok_under : {X Y : Type 0} (H : Type 0) (Q : X → Type 0) (r : Result X Y) → (H → IfOk r Q) → IfOk r (λ a. H → Q a)
ok_under H Q (Ok a) h = h
ok_under H Q (Err x) h = tt

pub err_under : {X Y : Type 0} (H : Type 0) (P Q : Y → Type 0) (r : Result X Y) → ((y : Y) → P y → Q y) → (H → IfErr r P) → IfErr r (λ y. H → Q y)
err_under H P Q (Ok a) more h = tt
err_under H P Q (Err x) more h = λ k. more x (h k)

pub on_ok : {X Y : Type 0} (Q : Type 0) (r : Result X Y) → Q → OnOk r Q
on_ok Q (Ok a) q = q
on_ok Q (Err x) q = tt
