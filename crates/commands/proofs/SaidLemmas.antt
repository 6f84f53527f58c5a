-- The texts of a line, one after another, are what is said in it.
use Rattle.std.proofs.Common.{◌≡◌, ◌≢◌, ◌++◌, ◌∷◌, [], ℕ, List, Bor, codes, refl, sym, ap, ◌∙◌, append_assoc}
use Rattle.std.specs.Fmt.{decimal}
use Rattle.commands.specs.declared.said.Said.{Said}
use Rattle.commands.specs.declared.said.Said.TheVariants as said
use Rattle.ftl_device.specs.declared.fault.DeviceFault.{DeviceFault}
use Rattle.ftl_device.specs.declared.fault.DeviceFault.TheVariants as device
use Rattle.commands.specs.Said.{said_bytes}
use Rattle.commands.specs.Text.{device_start, device_words}

-- from texts in a row to what they are together
joined : (area text end : List ℕ) → area ++ (text ++ end) ≡ (area ++ text) ++ end
joined area text end = sym (append_assoc area text end)

pub text_line : (area : List ℕ) (s : Said) (text : Bor (List ℕ)) → s ≡ said.Text text → area ++ (text.now ++ (10 ∷ [])) ≡ (area ++ said_bytes s) ++ (10 ∷ [])
text_line area s text is = joined area text.now (10 ∷ []) ∙ ap (λ x. (area ++ said_bytes x) ++ (10 ∷ [])) (sym is)

pub texts_line : (area : List ℕ) (s : Said) (text other : Bor (List ℕ)) → s ≡ said.Texts text other → area ++ (text.now ++ (other.now ++ (10 ∷ []))) ≡ (area ++ said_bytes s) ++ (10 ∷ [])
texts_line area s text other is =
    ap (λ l. area ++ l) (joined text.now other.now (10 ∷ [])) ∙ (joined area (text.now ++ other.now) (10 ∷ []) ∙ ap (λ x. (area ++ said_bytes x) ++ (10 ∷ [])) (sym is))

pub one_line : (area digits : List ℕ) (s : Said) (text : Bor (List ℕ)) (number : ℕ) → s ≡ said.One text number → digits ≡ decimal number
    → area ++ (text.now ++ (digits ++ (10 ∷ []))) ≡ (area ++ said_bytes s) ++ (10 ∷ [])
one_line area digits s text number is digits_is =
    ap (λ d. area ++ (text.now ++ (d ++ (10 ∷ [])))) digits_is
    ∙ (ap (λ l. area ++ l) (joined text.now (decimal number) (10 ∷ [])) ∙ (joined area (text.now ++ decimal number) (10 ∷ []) ∙ ap (λ x. (area ++ said_bytes x) ++ (10 ∷ [])) (sym is)))

pub two_line : (area digits more : List ℕ) (s : Said) (text : Bor (List ℕ)) (first : ℕ) (other : Bor (List ℕ)) (second : ℕ) → s ≡ said.Two text first other second → digits ≡ decimal first → more ≡ decimal second
    → area ++ (text.now ++ (digits ++ (other.now ++ (more ++ (10 ∷ []))))) ≡ (area ++ said_bytes s) ++ (10 ∷ [])
two_line area digits more s text first other second is first_is second_is =
    let t = text.now in
    let d = decimal first in
    let o = other.now in
    let e = decimal second in
    let behind : d ++ (o ++ (e ++ (10 ∷ []))) ≡ (d ++ (o ++ e)) ++ (10 ∷ []) = ap (λ l. d ++ l) (joined o e (10 ∷ [])) ∙ joined d (o ++ e) (10 ∷ []) in
    (λ i. area ++ (t ++ (first_is i ++ (o ++ (second_is i ++ (10 ∷ []))))))
    ∙ (ap (λ l. area ++ (t ++ l)) behind ∙ (ap (λ l. area ++ l) (joined t (d ++ (o ++ e)) (10 ∷ [])) ∙ (joined area (t ++ (d ++ (o ++ e))) (10 ∷ []) ∙ ap (λ x. (area ++ said_bytes x) ++ (10 ∷ [])) (sym is))))

-- ---- a device's refusal

pub device_line : (area : List ℕ) (s : Said) (refused : DeviceFault) → s ≡ said.Device refused → area ++ (device_words refused ++ (10 ∷ [])) ≡ (area ++ said_bytes s) ++ (10 ∷ [])
device_line area s refused is = joined area (device_words refused) (10 ∷ []) ∙ ap (λ x. (area ++ said_bytes x) ++ (10 ∷ [])) (sym is)

pub device_unstored_line : (area : List ℕ) (s : Said) (refused : DeviceFault) (path : Bor (List ℕ)) → s ≡ said.DeviceUnstored refused path
    → area ++ (device_words refused ++ (10 ∷ (codes "fault write " ++ (path.now ++ (10 ∷ []))))) ≡ (area ++ said_bytes s) ++ (10 ∷ [])
device_unstored_line area s refused path is =
    let words = device_words refused in
    let more : List ℕ = 10 ∷ (codes "fault write " ++ path.now) in
    ap (λ l. area ++ (words ++ (10 ∷ l))) (joined (codes "fault write ") path.now (10 ∷ []))
    ∙ (ap (λ l. area ++ l) (joined words more (10 ∷ [])) ∙ (joined area (words ++ more) (10 ∷ []) ∙ ap (λ x. (area ++ said_bytes x) ++ (10 ∷ [])) (sym is)))

-- of one with no counts its beginning is all
pub device_plain : (refused : DeviceFault) → ((good wanted failed : ℕ) → refused ≢ device.ReadOnly good wanted failed) → device_start refused ≡ device_words refused
device_plain device.OutOfRange none = refl
device_plain (device.ReadOnly good wanted failed) none = absurd (none good wanted failed refl)
device_plain device.SequenceSpent none = refl
device_plain device.OutOfMemory none = refl
device_plain device.Damaged none = refl
device_plain device.BusFault none = refl

-- its counts, by the texts of their numbers
pub counts_line : (good wanted failed : ℕ) (area a b d end : List ℕ) → a ≡ decimal good → b ≡ decimal wanted → d ≡ decimal failed
    → area ++ (codes "2 ReadOnly good " ++ (a ++ (codes " need " ++ (b ++ (codes " failed " ++ (d ++ end)))))) ≡ area ++ (device_words (device.ReadOnly good wanted failed) ++ end)
counts_line good wanted failed area a b d end p q r =
    let s = codes "2 ReadOnly good " in
    let n = codes " need " in
    let f = codes " failed " in
    let x = decimal good in
    let y = decimal wanted in
    let z = decimal failed in
    (λ i. area ++ (s ++ (p i ++ (n ++ (q i ++ (f ++ (r i ++ end)))))))
    ∙ (ap (λ l. area ++ (s ++ (x ++ (n ++ (y ++ l))))) (joined f z end)
    ∙ (ap (λ l. area ++ (s ++ (x ++ (n ++ l)))) (joined y (f ++ z) end)
    ∙ (ap (λ l. area ++ (s ++ (x ++ l))) (joined n (y ++ (f ++ z)) end)
    ∙ (ap (λ l. area ++ (s ++ l)) (joined x (n ++ (y ++ (f ++ z))) end)
    ∙ ap (λ l. area ++ l) (joined s (x ++ (n ++ (y ++ (f ++ z)))) end)))))
