-- What the checker says of an image that a reader gives.
use Rattle.std.proofs.Common.{◌≡◌, ◌⊎◌, ℕ, ◌+◌, List, ◌++◌, length, length-append, Option, IfSome, Result, Ok, Err, IfOk, IfErr, OnOk, refl, arith, inl, inr}
use Rattle.std.proofs.KnownBytes.{Consumes-trans}
use Rattle.page_layout.specs.declared.geometry.Geometry.{Geometry}
use Rattle.page_layout.specs.Geometry.{row_count}
use Rattle.page_layout.specs.Page.{Image}
use Rattle.page_layout.specs.Raw.{raw_image}
use Rattle.page_layout.proofs.RawLemmas.{length-raw_image}
use Rattle.certificate.specs.Claim.{Claim}
use Rattle.image_check.specs.declared.page_reader.Cut.{Cut}
use Rattle.image_check.specs.declared.page_reader.Cut.TheVariants.{Ended, Failed}
use Rattle.image_check.specs.declared.pass.Begun.{Begun}
use Rattle.image_check.specs.declared.pass.Pass.{Pass}
use Rattle.image_check.specs.declared.refusal.Refusal.{Refusal}
use Rattle.image_check.specs.declared.refusal.Refusal.TheVariants as refusals
use Rattle.image_check.specs.Accepted.{Acceptance, IsAcceptance}
use Rattle.image_check.specs.PageReader.{image_bytes, ReadsUpTo, HasMore, ReadsFewer, IsReadTo, IsTaken}
use Rattle.image_check.specs.Passed.{IsBegun, Shows}
use Rattle.image_check.specs.Refused.{IsFirstWrong, IsJudgement}
use Rattle.image_check.specs.Streamed.{IsUntaken, IsStreamRefusal, refusal_of}
use Rattle.image_check.proofs.PageReaderLemmas.{if_all, if_more, cut_short, read_past}
use Rattle.image_check.proofs.PassLemmas.{IsOwn, finished_ok, finished_err}

-- what the pass has of all pages of an image
abbrev pub shows_all : Geometry → Pass → Image → Type 0
shows_all g p image = Shows image (row_count g) p

-- ---- why an image was not taken

pub cut_untaken : (g : Geometry) (a b : Option (List ℕ)) (cut : Cut) (r : Refusal) → ReadsFewer (image_bytes g) a b cut → r ≡ refusal_of cut → IfSome a (λ bytes. IsUntaken g bytes r)
cut_untaken g a b Ended r h e = if_more a (λ bytes. ¬ (length bytes ≡ image_bytes g)) (λ bytes. IsUntaken g bytes r) (cut_short g a b h) (λ bytes short. inr (e, short))
cut_untaken g a b Failed r h e = if_all a (λ bytes. IsUntaken g bytes r) (λ bytes. inl e)

pub cut_stops : (cut : Cut) (r : Refusal) → r ≡ refusal_of cut → (r ≡ refusals.Source) ⊎ (r ≡ refusals.WrongLength)
cut_stops Ended r e = inr e
cut_stops Failed r e = inl e

pub source_cut : {T : Type 0} (result : Result T Refusal) (cut : Cut) (r : Refusal) → r ≡ refusal_of cut → result ≡ Err r → result ≡ Err refusals.Source → cut ≡ Failed
source_cut result Ended r e was is = (let never : ⊥ = cc in absurd never)
source_cut result Failed r e was is = refl

pub uncut : {T : Type 0} (result : Result T Cut) (x : T) (cut : Cut) → result ≡ Ok x → result ≡ Err cut → ⊥
uncut result x cut was is = (let never : ⊥ = cc in never)

pub past_untaken : (g : Geometry) (a b : Option (List ℕ)) (shows : Image → Type 0) (r : Refusal) → IsReadTo g (row_count g) a b shows → HasMore b → r ≡ refusals.WrongLength → IfSome a (λ bytes. IsUntaken g bytes r)
past_untaken g a b shows r h more e = if_more a (λ bytes. ¬ (length bytes ≡ image_bytes g)) (λ bytes. IsUntaken g bytes r) (read_past g a b shows h more) (λ bytes long. inr (e, long))

pub failed_untaken : (g : Geometry) (a : Option (List ℕ)) (r : Refusal) → r ≡ refusals.Source → IfSome a (λ bytes. IsUntaken g bytes r)
failed_untaken g a r e = if_all a (λ bytes. IsUntaken g bytes r) (λ bytes. inl e)

-- one byte more than the image, at most
pub reads_all : (g : Geometry) (most : ℕ) (a b d : Option (List ℕ)) (shows : Image → Type 0) → most ≡ image_bytes g + 1 → IsReadTo g (row_count g) a b shows → ReadsUpTo 1 b d → ReadsUpTo most a d
reads_all g most a b d shows is h one = record {
  bytes = h.bytes ++ one.bytes;
  few = (let size = h.size in let few = one.few in omega (arith, length-append h.bytes one.bytes));
  read = Consumes-trans a b d h.bytes one.bytes h.read one.read;
}

-- ---- the answer

-- what begins is of its own certificate
pub begun_own : (g : Geometry) (c : Claim) (b : Begun) → IsBegun g c b → IsBegun g b.pass.certificate.now b
begun_own g c b h = record { pass = h.pass; shows = h.shows; geometry = h.geometry; claim = refl; body = h.body; spare = h.spare }

pub streamed_ok : (g : Geometry) (capacity : ℕ) (o : Option (List ℕ)) (c : Claim) (p : Pass) (r : Result Acceptance Refusal) → IsOwn g capacity c p → IfSome o (IsTaken g (shows_all g p))
    → IfOk r (λ a. (image : Image) → length image ≡ row_count p.survey.geometry → Shows image (row_count p.survey.geometry) p → IsAcceptance p.survey.geometry p.certificate.now.capacity image p.certificate.now a)
    → IfOk r (λ a. IfSome o (λ bytes. IsAcceptance g capacity (raw_image g bytes) c a))
streamed_ok g capacity o c p (Ok a) own took h = if_more o (IsTaken g (shows_all g p)) (λ bytes. IsAcceptance g capacity (raw_image g bytes) c a) took (λ bytes t. finished_ok g capacity (raw_image g bytes) c p (Ok a) own (length-raw_image g bytes) t.shown h)
streamed_ok g capacity o c p (Err x) own took h = tt

pub streamed_err : (g : Geometry) (capacity : ℕ) (o : Option (List ℕ)) (c : Claim) (p : Pass) (r : Result Acceptance Refusal) → IsOwn g capacity c p → IfSome o (IsTaken g (shows_all g p))
    → IfErr r (λ x. (image : Image) → length image ≡ row_count p.survey.geometry → Shows image (row_count p.survey.geometry) p → IsFirstWrong p.survey.geometry p.certificate.now.capacity image p.certificate.now x)
    → IfErr r (λ x. IfSome o (λ bytes. IsStreamRefusal g capacity bytes c x))
streamed_err g capacity o c p (Ok a) own took h = tt
streamed_err g capacity o c p (Err x) own took h = if_more o (IsTaken g (shows_all g p)) (λ bytes. IsStreamRefusal g capacity bytes c x) took (λ bytes t. inr (inr (finished_err g capacity (raw_image g bytes) c p (Err x) own (length-raw_image g bytes) t.shown h)))

taken_whole : (g : Geometry) (o : Option (List ℕ)) (p : Pass) → IfSome o (IsTaken g (shows_all g p)) → IfSome o (λ bytes. length bytes ≡ image_bytes g)
taken_whole g o p took = if_more o (IsTaken g (shows_all g p)) (λ bytes. length bytes ≡ image_bytes g) took (λ bytes t. t.whole)

pub streamed_whole : (g : Geometry) (o : Option (List ℕ)) (p : Pass) (r : Result Acceptance Refusal) → IfSome o (IsTaken g (shows_all g p)) → OnOk r (IfSome o (λ bytes. length bytes ≡ image_bytes g))
streamed_whole g o p (Ok a) took = taken_whole g o p took
streamed_whole g o p (Err x) took = tt

pub streamed_judged : (g : Geometry) (o : Option (List ℕ)) (p : Pass) (r : Result Acceptance Refusal) → IfSome o (IsTaken g (shows_all g p)) → IfErr r (λ x. IsJudgement x → IfSome o (λ bytes. length bytes ≡ image_bytes g))
streamed_judged g o p (Ok a) took = tt
streamed_judged g o p (Err x) took = λ j. taken_whole g o p took
