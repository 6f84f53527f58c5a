-- Pages that a reader gives one behind another.
use Rattle.std.proofs.Common.{◌≡◌, ℕ, suc, ◌+◌, ◌-◌, ◌*◌, ◌<◌, ◌≤◌, List, [], ◌∷◌, ◌++◌, length, length-append, append-nil, append_assoc, take}
use Rattle.std.proofs.Common.{drop, Option, Some, None, IfSome, sym, ap, subst, ◌∙◌, arith}
use Rattle.std.proofs.Common.{slice_get}
use Rattle.std.specs.Prelude.{slice_range}
use Rattle.std.specs.Io.KnownBytes.{Consumes, Keeps, IsAtEnd}
use Rattle.std.proofs.KnownBytes.{Consumes-nil, Consumes-trans, Consumes-kept}
use Rattle.std.proofs.lemmas.List.{drop_at, take_at}
use Rattle.std.proofs.Math.Nat.{mul-le-mul_right}
use Rattle.page_layout.specs.declared.geometry.Geometry.{Geometry}
use Rattle.page_layout.specs.Geometry.{row_count, page_bytes}
use Rattle.page_layout.specs.Page.{Image, page}
use Rattle.page_layout.specs.Raw.{raw_image, page_from}
use Rattle.page_layout.proofs.RawLemmas.{raw_image-at}
use Rattle.image_check.specs.declared.page_reader.Cut.{Cut}
use Rattle.image_check.specs.declared.page_reader.Cut.TheVariants.{Ended, Failed}
use Rattle.image_check.specs.PageReader.{image_bytes, ReadsUpTo, HasMore, ReadsFewer, IsReadTo, IsTaken}

-- ---- known bytes

pub if_all : {X : Type 0} (o : Option X) (P : X → Type 0) → ((x : X) → P x) → IfSome o P
if_all None P h = tt
if_all (Some x) P h = h x

pub if_more : {X : Type 0} (o : Option X) (P Q : X → Type 0) → IfSome o P → ((x : X) → P x → Q x) → IfSome o Q
if_more None P Q h more = tt
if_more (Some x) P Q h more = more x h

pub read_nothing : (most : ℕ) (a : Option (List ℕ)) → ReadsUpTo most a a
read_nothing most a = record { bytes = []; few = omega arith; read = Consumes-nil a }

pub one_beyond : (n : ℕ) → n ≤ n + 1
one_beyond n = omega arith

-- ---- a cut

pub cut_ended : (size n : ℕ) (a b d : Option (List ℕ)) (xs ys : List ℕ) → Consumes a b xs → length xs < size → n ≡ 0 → Consumes b d (take n ys) → IsAtEnd d → ReadsFewer size a d Ended
cut_ended size n a b d xs ys first few none second ends = record {
  bytes = xs ++ [];
  few = omega (arith, length-append xs []);
  read = Consumes-trans a b d xs [] first (subst (λ k. Consumes b d (take k ys)) none second);
  ends = ends;
}

pub cut_failed : (size : ℕ) (a b d : Option (List ℕ)) (xs : List ℕ) → Consumes a b xs → length xs < size → Keeps b d → ReadsFewer size a d Failed
cut_failed size a b d xs first few keeps = record { bytes = xs; few = few; read = Consumes-kept a b d xs first keeps; ends = tt }

pub cut_after : (size more : ℕ) (a b d : Option (List ℕ)) (xs : List ℕ) (cut : Cut) → Consumes a b xs → length xs + size ≤ more → ReadsFewer size b d cut → ReadsFewer more a d cut
cut_after size more a b d xs cut first le h = record {
  bytes = xs ++ h.bytes;
  few = (let few = h.few in omega (arith, length-append xs h.bytes));
  read = Consumes-trans a b d xs h.bytes first h.read;
  ends = h.ends;
}

-- ---- pages

pub read_none : (g : Geometry) (a : Option (List ℕ)) (shows : Image → Type 0) → ((image : Image) → shows image) → IsReadTo g 0 a a shows
read_none g a shows h = record { bytes = []; size = omega arith; read = Consumes-nil a; shown = λ rest. h (raw_image g rest) }

-- the page that follows so many bytes
page_there : (g : Geometry) (bytes body spare rest : List ℕ) (at : ℕ) → length bytes ≡ at → length body ≡ g.data_bytes → length spare ≡ g.spare_bytes → page_from g (bytes ++ ((body ++ spare) ++ rest)) at ≡ page body spare
page_there g bytes body spare rest at size body_size spare_size =
    let d : ℕ = g.data_bytes in
    let all : List ℕ = bytes ++ ((body ++ spare) ++ rest) in
    let first : at + d - at ≡ d = omega arith in
    let second : at + page_bytes g - (at + d) ≡ g.spare_bytes = omega arith in
    let begins : drop at all ≡ body ++ (spare ++ rest) = drop_at bytes ((body ++ spare) ++ rest) at size ∙ append_assoc body spare rest in
    let later : drop (at + d) all ≡ spare ++ rest =
    ap (drop (at + d)) (sym (append_assoc bytes (body ++ spare) rest) ∙ (ap (λ xs. xs ++ rest) (sym (append_assoc bytes body spare)) ∙ append_assoc (bytes ++ body) spare rest))
    ∙ drop_at (bytes ++ body) (spare ++ rest) (at + d) (omega (arith, length-append bytes body)) in
    let body_is : slice_range all at (at + d) ≡ body = ap (λ k. take k (drop at all)) first ∙ (ap (take d) begins ∙ take_at body (spare ++ rest) d body_size) in
    let spare_is : slice_range all (at + d) (at + page_bytes g) ≡ spare = ap (λ k. take k (drop (at + d) all)) second ∙ (ap (take g.spare_bytes) later ∙ take_at spare rest g.spare_bytes spare_size) in
    ap (λ b. page b (slice_range all (at + d) (at + page_bytes g))) body_is ∙ ap (λ s. page body s) spare_is

next_times : (rows size : ℕ) → (rows + 1) * size ≡ rows * size + size
next_times rows size = let one : rows + 1 ≡ suc rows = omega arith in ap (λ k. k * size) one ∙ omega arith

pub read_more : (g : Geometry) (rows : ℕ) (a b d : Option (List ℕ)) (before after : Image → Type 0) (body spare : List ℕ) → IsReadTo g rows a b before → Consumes b d (body ++ spare) → length body ≡ g.data_bytes → length spare ≡ g.spare_bytes
    → rows < row_count g → ((image : Image) → before image → slice_get image rows ≡ Some (page body spare) → after image) → IsReadTo g (rows + 1) a d after
read_more g rows a b d before after body spare h next body_size spare_size within more = record {
  bytes = h.bytes ++ (body ++ spare);
  size = (let size = h.size in let step = next_times rows (page_bytes g) in omega (arith, length-append h.bytes (body ++ spare), length-append body spare));
  read = Consumes-trans a b d h.bytes (body ++ spare) h.read next;
  shown = λ rest. subst (λ bytes. after (raw_image g bytes)) (sym (append_assoc h.bytes (body ++ spare) rest))
      (more (raw_image g (h.bytes ++ ((body ++ spare) ++ rest))) (h.shown ((body ++ spare) ++ rest))
      (raw_image-at g (h.bytes ++ ((body ++ spare) ++ rest)) rows within ∙ ap Some (page_there g h.bytes body spare rest (rows * page_bytes g) h.size body_size spare_size)));
}

pub row_before : (g : Geometry) (row end : ℕ) → row < end → end ≡ row_count g → row < row_count g
row_before g row end below is = subst (λ n. row < n) is below

pub page_size : (g : Geometry) (n m k l : ℕ) → n ≡ k → k ≡ g.data_bytes → m ≡ l → l ≡ g.spare_bytes → n + m ≡ page_bytes g
page_size g n m k l body body_whole spare spare_whole = omega arith

-- a page that wasn't read whole
pub read_cut : (g : Geometry) (rows size : ℕ) (a b d : Option (List ℕ)) (shows : Image → Type 0) (cut : Cut) → IsReadTo g rows a b shows → size ≡ page_bytes g → rows < row_count g → ReadsFewer size b d cut → ReadsFewer (image_bytes g) a d cut
read_cut g rows size a b d shows cut h same within short =
    let step = next_times rows (page_bytes g) in
    let room : (rows + 1) * page_bytes g ≤ row_count g * page_bytes g = mul-le-mul_right (page_bytes g) (at_most rows (row_count g) within) in
    let long = h.size in
    cut_after size (image_bytes g) a b d h.bytes cut h.read (omega arith) short
  where
    at_most : (m n : ℕ) → m < n → m + 1 ≤ n
    at_most m n l = omega arith

-- ---- the end

ended : (b d : Option (List ℕ)) (xs : List ℕ) → Consumes b d xs → length xs < 1 → IsAtEnd d → IsAtEnd b
ended None d xs read few e = tt
ended (Some ys) None xs read few e = absurd read
ended (Some ys) (Some zs) [] read few e = read ∙ e
ended (Some ys) (Some zs) (x ∷ xs) read few e = absurd (omega arith)

pub end_of_cut : (b d : Option (List ℕ)) → ReadsFewer 1 b d Ended → IsAtEnd b
end_of_cut b d h = ended b d h.bytes h.read h.few h.ends

pub one_more : (b d : Option (List ℕ)) (xs : List ℕ) → Consumes b d xs → length xs ≡ 1 → HasMore b
one_more None d xs read one = tt
one_more (Some ys) None xs read one = absurd read
one_more (Some ys) (Some zs) xs read one = let size : length ys ≡ length (xs ++ zs) = ap length read in omega (arith, length-append xs zs)

-- ---- how many bytes were read

pub reads_cut : (size most : ℕ) (a b : Option (List ℕ)) (cut : Cut) → size ≤ most → ReadsFewer size a b cut → ReadsUpTo most a b
reads_cut size most a b cut le h = record { bytes = h.bytes; few = (let few = h.few in omega arith); read = h.read }

pub reads_one : (a b : Option (List ℕ)) (xs : List ℕ) → length xs ≡ 1 → Consumes a b xs → ReadsUpTo 1 a b
reads_one a b xs one read = record { bytes = xs; few = omega arith; read = read }

-- ---- the image as a whole

taken_from : (g : Geometry) (a b : Option (List ℕ)) (xs : List ℕ) (shows : Image → Type 0) → Consumes a b xs → length xs ≡ image_bytes g → IsAtEnd b → shows (raw_image g (xs ++ [])) → IfSome a (IsTaken g shows)
taken_from g None b xs shows read size e shown = tt
taken_from g (Some ys) None xs shows read size e shown = absurd read
taken_from g (Some ys) (Some zs) xs shows read size e shown =
    let same : ys ≡ xs ++ [] = read ∙ ap (λ z. xs ++ z) e in
    record {
      whole = ap length (same ∙ append-nil xs) ∙ size;
      shown = subst (λ bytes. shows (raw_image g bytes)) (sym same) shown;
    }

pub taken : (g : Geometry) (a b : Option (List ℕ)) (shows : Image → Type 0) → IsReadTo g (row_count g) a b shows → IsAtEnd b → IfSome a (IsTaken g shows)
taken g a b shows h e = taken_from g a b h.bytes shows h.read h.size e (h.shown [])

-- fewer bytes than an image has
short_of : (g : Geometry) (a b : Option (List ℕ)) (xs : List ℕ) → Consumes a b xs → length xs < image_bytes g → IsAtEnd b → IfSome a (λ bytes. ¬ (length bytes ≡ image_bytes g))
short_of g None b xs read few e = tt
short_of g (Some ys) None xs read few e = absurd read
short_of g (Some ys) (Some zs) xs read few e =
    let same : length ys ≡ length xs = ap length (read ∙ (ap (λ z. xs ++ z) e ∙ append-nil xs)) in
    λ whole. absurd (omega arith)

pub cut_short : (g : Geometry) (a b : Option (List ℕ)) → ReadsFewer (image_bytes g) a b Ended → IfSome a (λ bytes. ¬ (length bytes ≡ image_bytes g))
cut_short g a b h = short_of g a b h.bytes h.read h.few h.ends

-- more bytes than an image has
long_of : (g : Geometry) (a b : Option (List ℕ)) (xs : List ℕ) → Consumes a b xs → length xs ≡ image_bytes g → HasMore b → IfSome a (λ bytes. ¬ (length bytes ≡ image_bytes g))
long_of g None b xs read size more = tt
long_of g (Some ys) None xs read size more = absurd read
long_of g (Some ys) (Some zs) xs read size more =
    let long : length ys ≡ length (xs ++ zs) = ap length read in
    λ whole. absurd (omega (arith, length-append xs zs))

pub read_past : (g : Geometry) (a b : Option (List ℕ)) (shows : Image → Type 0) → IsReadTo g (row_count g) a b shows → HasMore b → IfSome a (λ bytes. ¬ (length bytes ≡ image_bytes g))
read_past g a b shows h more = long_of g a b h.bytes h.read h.size more
