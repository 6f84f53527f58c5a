-- What files that say no more answer was answered before.
use Rattle.std.proofs.Common.{◌≡◌, ◌∙◌, ◌+◌, ◌++◌, inl, inr, zero, suc, ℕ, Bool, true, false, List, [], ◌∷◌, ap, drop, length, refl, replicate, subst, sym, take}
use Rattle.std.specs.Borrow.{Bor}
use Rattle.page_layout.specs.declared.geometry.Geometry.{Geometry}
use Rattle.certificate.specs.Claim.{Claim}
use Rattle.file_die.specs.Store.{Held}
use Rattle.mount.specs.Mounted.{IsMounted}
use Rattle.lost_sectors.specs.Lost.{Adds, DropsNone, is_lost}
use Rattle.disk_server.specs.declared.opened.OpenStoreFault.{OpenStoreFault}
use Rattle.disk_server.specs.Opened.{HasCome}
use Rattle.page_layout.specs.Counter.{HasRisen}
use Rattle.lost_sectors.specs.declared.fault.LostFault.{LostFault}
use Rattle.lost_sectors.specs.declared.fault.LostFault.TheVariants as lost
use Rattle.disk_commands.specs.Check.{IsUncheckedAt, unseen}
use Rattle.std.specs.Prelude.{IfOk, Result, if◌then◌else◌}
use Rattle.disk_damage.specs.Numbers.{with_commas}
use Rattle.disk_commands.specs.declared.printed.Form.{Form}
use Rattle.disk_commands.specs.declared.printed.Form.TheVariants.{Json}
use Rattle.disk_commands.specs.declared.printed.Info.{Info}
use Rattle.disk_commands.specs.Info.{info_text, object_of}
use Rattle.disk_commands.specs.declared.mark.FoundMark.{FoundMark}
use Rattle.disk_commands.specs.declared.shape_text.DiskText.{DiskText}
use Rattle.disk_commands.specs.declared.text.DiskCommandFault.{DiskCommandFault}
use Rattle.disk_commands.specs.declared.text.DiskCommandFault.TheVariants as fault
use Rattle.disk_commands.specs.Damage.{IsListAt, IsListBy, IsLookedAt, IsNoListAt, IsUnlookedAt, no_disk, wants_memory}
use Rattle.disk_commands.specs.declared.files.DiskFileFault.{DiskFileFault}
use Rattle.disk_commands.specs.Files.{DiskFilesAnswerNoMore, DiskFileAnswers, SaysNoMore}
use Rattle.disk_commands.specs.Opening.{file_bytes, IsFaultAt, IsMarkAt, IsNotAt, IsShapeFault, IsStoreAt, IsTextAt, told_at}
use Rattle.disk_commands.proofs.OpeningLemmas.{no_file}

pub mark_back : (a b : DiskFileAnswers) (path : List ℕ) (marked : Bool) (found : FoundMark) → SaysNoMore a b → IsMarkAt b path marked found → IsMarkAt a path marked found
mark_back a b path true found less h = (h.0, less.marks path h.0 h.1, h.2)
mark_back a b path false found less h = h

pub list_back : (a b : DiskFileAnswers) (path : List ℕ) (listed : Bool) (sectors : ℕ) (lost : List Bool) → SaysNoMore a b → IsListBy listed b path sectors lost → IsListBy listed a path sectors lost
list_back a b path true sectors lost less h = (h.0, less.lists path (sectors + 2) h.0 h.1, h.2)
list_back a b path false sectors lost less h = h

pub fault_back : (a b : DiskFileAnswers) (path : List ℕ) (wanted : ℕ) (why : DiskCommandFault) → SaysNoMore a b → IsFaultAt b path wanted why → IsFaultAt a path wanted why
fault_back a b path wanted (fault.Read told) less h = (h.0, less.fails path _ h.1)
fault_back a b path wanted (fault.Write told) less h = (h.0, less.fails path _ h.1)
fault_back a b path wanted (fault.InUse told) less h = (h.0, less.fails path _ h.1)
fault_back a b path wanted (fault.Exists told) less h = (h.0, less.fails path _ h.1)
fault_back a b path wanted (fault.Length told found due) less h = (h.0, h.1, less.fails path _ h.2)
fault_back a b path wanted fault.OutOfMemory less h = less.fails path _ h
fault_back a b path wanted why less h = h

pub no_list_back : (a b : DiskFileAnswers) (path : List ℕ) (told : DiskText) (why : DiskCommandFault) → SaysNoMore a b → IsNoListAt b path told why → IsNoListAt a path told why
no_list_back a b path told (fault.List at reason) less h = (h.0, h.1, (h.2.0, less.lists path (told.shape.geometry.sectors + 2) h.2.0 h.2.1, h.2.2))
no_list_back a b path told (fault.ReadList at) less h = (h.0, h.1, (h.2.0, less.fails path h.2.0 h.2.1, h.2.2))
no_list_back a b path told why less h = h

-- ---- a disk that is locked, and then opened

shape_of : (a : DiskFileAnswers) (path : List ℕ) (why : DiskCommandFault) → IsFaultAt a path 0 why → IsShapeFault a path why
shape_of a path (fault.Read told) h = h
shape_of a path (fault.Write told) h = h
shape_of a path (fault.InUse told) h = h
shape_of a path (fault.Exists told) h = h
shape_of a path (fault.Length told found due) h = h
shape_of a path fault.OutOfMemory h = h
shape_of a path why h = absurd h

-- its mark was not read
pub mark_fault : (a b : DiskFileAnswers) (path : List ℕ) (why : DiskCommandFault) → SaysNoMore a b → IsFaultAt b path 0 why → IsNotAt a path why
mark_fault a b path why less h = inl (shape_of a path why (fault_back a b path 0 why less h))

pub text_back : (a m : DiskFileAnswers) (path : List ℕ) (told : DiskText) → DiskFilesAnswerNoMore a m → IsTextAt m path told → IsTextAt a path told
text_back a m path told less h = record { text = h.text; tells = less.tells path h.text h.tells; says = h.says }

-- its shape was not told
pub shape_back : (a m : DiskFileAnswers) (path : List ℕ) (why : DiskCommandFault) → DiskFilesAnswerNoMore a m → IsShapeFault m path why → IsShapeFault a path why
shape_back a m path (fault.Shape told why) less h = (h.0, (h.1.0, less.tells path h.1.0 h.1.1, h.1.2))
shape_back a m path (fault.Read told) less h = fault_back a m path 0 (fault.Read told) less.says h
shape_back a m path (fault.Write told) less h = fault_back a m path 0 (fault.Write told) less.says h
shape_back a m path (fault.InUse told) less h = fault_back a m path 0 (fault.InUse told) less.says h
shape_back a m path (fault.Exists told) less h = fault_back a m path 0 (fault.Exists told) less.says h
shape_back a m path (fault.Length told found due) less h = fault_back a m path 0 (fault.Length told found due) less.says h
shape_back a m path fault.OutOfMemory less h = fault_back a m path 0 fault.OutOfMemory less.says h
shape_back a m path why less h = absurd h

-- with the answers that it had once it was locked
module _ (a m t : DiskFileAnswers) (path : Bor (List ℕ)) (text : DiskText) (less : DiskFilesAnswerNoMore a m) (same : t ≡ m) (at : IsTextAt m path.now text) where
  pub not_opened : (f : DiskFileFault) (wanted : ℕ) (told : DiskCommandFault) → t.fails path.now f → wanted ≡ file_bytes text.shape → told ≡ told_at f path wanted → IsNotAt a path.now told
  not_opened f wanted told fails bytes is =
      no_file a f path wanted text told (text_back a m path.now text less at) (less.says.fails path.now f (subst (λ x. x.fails path.now f) same fails)) bytes is

  pub was_opened : {S : Type 0} (held : S → Held) (honest : S → Bool) (store : S) → t.holds path.now (held store) → (held store).geometry ≡ text.shape.geometry → honest store ≡ t.honest
      → IsStoreAt held honest a path.now text store
  was_opened held honest store holds geometry is = record {
    text = text_back a m path.now text less at;
    holds = less.holds path.now (held store) (subst (λ x. x.holds path.now (held store)) same holds);
    geometry = geometry;
    is_honest = subst (λ x. honest store ≡ x.honest) same is ∙ less.honest;
  }

-- what says no more than what says no more
pub no_more_then : (a m t n : DiskFileAnswers) → DiskFilesAnswerNoMore a m → t ≡ m → SaysNoMore t n → SaysNoMore a n
no_more_then a m t n less same more =
    let later : SaysNoMore m n = subst (λ x. SaysNoMore x n) same more in
    record {
      marks = λ path text h. less.says.marks path text (later.marks path text h);
      lists = λ path most text h. less.says.lists path most text (later.lists path most text h);
      fails = λ path f h. less.says.fails path f (later.fails path f h);
    }

-- how it is told that a store has no disk
by_memory : (wants : Bool) (P : DiskCommandFault → Type 0) (one other : DiskCommandFault) → P one → (wants ≡ false → P other) → P (if wants then one else other)
by_memory true P one other h more = h
by_memory false P one other h more = more refl

pub told_no_disk : (P : DiskCommandFault → Type 0) (path : Bor (List ℕ)) (why : OpenStoreFault) → P fault.OutOfMemory → (wants_memory why ≡ false → P (fault.Open path why)) → P (no_disk path why)
told_no_disk P path why h more = by_memory (wants_memory why) P fault.OutOfMemory (fault.Open path why) h more

-- a growth was refused
pub no_memory : {S : Type 0} (held : S → Held) (honest : S → Bool) (failed : S → ℕ) (a : DiskFileAnswers) (path : List ℕ) → IsUnlookedAt held honest failed a path fault.OutOfMemory
no_memory held honest failed a path = inr (inl tt)

take_append : (xs ys : List Bool) → take (length xs) (xs ++ ys) ≡ xs
take_append [] ys = refl
take_append (x ∷ xs) ys = ap (λ l. x ∷ l) (take_append xs ys)

long_none : (n : ℕ) → length (replicate n false) ≡ n
long_none zero = refl
long_none (suc n) = ap suc (long_none n)

list_long : (listed : Bool) (a : DiskFileAnswers) (path : List ℕ) (sectors : ℕ) (lost : List Bool) → IsListBy listed a path sectors lost → length lost ≡ sectors
list_long true a path sectors lost h = h.2.size
list_long false a path sectors lost h = ap length h ∙ long_none sectors

-- a list that was written back to its vector
pub kept_flags : (n : ℕ) (xs ys : List Bool) → length xs ≡ n → take n (xs ++ drop (length xs) ys) ≡ xs
kept_flags n xs ys long = ap (λ k. take k (xs ++ drop (length xs) ys)) (sym long) ∙ take_append xs (drop (length xs) ys)

-- a disk that was looked at
pub looked_at : {S : Type 0} (held : S → Held) (honest : S → Bool) (a b c : DiskFileAnswers) (path : List ℕ) (told : DiskText) (found : FoundMark) (first store : S) (certificate : Claim) (list lost : List Bool)
    → SaysNoMore a b → c ≡ b → IsStoreAt held honest a path told first → IsMarkAt b path told.marked found → IsListAt c path told list → HasCome held honest first store
    → (honest first ≡ true → IsMounted (held first).geometry 65536 (held first).pages certificate)
    → (honest first ≡ true → length list ≡ (held first).geometry.sectors → Adds (is_lost (held first).geometry (held first).pages found.mark.flushed) 0 (held first).geometry.sectors list lost)
    → DropsNone list lost → IsLookedAt held honest a path told found store certificate lost
looked_at held honest a b c path told found first store certificate list lost less same at mark listed back mounted adds kept =
    let here : IsListAt b path told list = subst (λ x. IsListAt x path told list) same listed in
    record {
      first = first;
      at = at;
      mark = mark_back a b path told.marked found less mark;
      back = back;
      mounted = mounted;
      list = list;
      listed = list_back a b path told.lost told.shape.geometry.sectors list less here;
      lost_are = λ h. adds h (list_long told.lost b path told.shape.geometry.sectors list here ∙ sym (ap (λ (g : Geometry). g.sectors) at.geometry));
      kept = kept;
    }

-- its pages were not looked at
pub unseen_at : {S : Type 0} (held : S → Held) (honest : S → Bool) (failed : S → ℕ) (a : DiskFileAnswers) (path : Bor (List ℕ)) (told : DiskText) (found : FoundMark) (store : S) (certificate : Claim) (list : List Bool) (left : S) (why : LostFault)
    → IsLookedAt held honest a path.now told found store certificate list → (why ≡ lost.Store → HasRisen (failed store) (failed left)) → IsUncheckedAt held honest failed a path.now (unseen why path)
unseen_at held honest failed a path told found store certificate list left lost.OutOfMemory looked rose = inr tt
unseen_at held honest failed a path told found store certificate list left lost.Store looked rose =
    inr (refl, record { told = told; found = found; store = store; certificate = certificate; list = list; looked = looked; left = left; rose = rose refl })

pub three : (a b c x y z : List ℕ) → a ≡ x → b ≡ y → c ≡ z → a ++ (b ++ c) ≡ x ++ (y ++ z)
three a b c x y z p q r = ap (λ l. l ++ (b ++ c)) p ∙ ap (λ l. x ++ l) (ap (λ l. l ++ c) q ∙ ap (λ l. y ++ l) r)

-- what is told as an object
pub json_is : {T E : Type 0} (bytes : T → List ℕ) (r : Result T E) (info : Info) (form : Form) (numbers lost : List ℕ) → form ≡ Json → numbers ≡ with_commas lost
    → IfOk r (λ text. bytes text ≡ object_of info numbers) → IfOk r (λ text. bytes text ≡ info_text form info lost)
json_is bytes r info form numbers lost is same h =
    subst (λ f. IfOk r (λ text. bytes text ≡ info_text f info lost)) (sym is) (subst (λ xs. IfOk r (λ text. bytes text ≡ object_of info xs)) same h)
