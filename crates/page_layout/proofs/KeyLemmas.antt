-- Equality of keys.
use Rattle.std.proofs.Common.{◌≡◌, ◌≢◌, ◌⊎◌, inl, inr, true, false, refl, ap}
use Rattle.std.proofs.lemmas.Bool.{eqb-true, eq-eqb, cases_Bool}
use Rattle.page_layout.specs.declared.record.Key.{Key}
use Rattle.page_layout.specs.declared.record.Key.TheVariants.{Sector, Translation, Table}
use Rattle.page_layout.specs.Key.{key_eq}

pub key_eq-true : (a b : Key) → key_eq a b ≡ true → a ≡ b
key_eq-true (Sector m) (Sector n) e = ap Sector (eqb-true m n e)
key_eq-true (Translation m) (Translation n) e = ap Translation (eqb-true m n e)
key_eq-true (Table m) (Table n) e = ap Table (eqb-true m n e)
key_eq-true (Sector m) (Translation n) e = absurd (let no : false ≡ true = e in cc)
key_eq-true (Sector m) (Table n) e = absurd (let no : false ≡ true = e in cc)
key_eq-true (Translation m) (Sector n) e = absurd (let no : false ≡ true = e in cc)
key_eq-true (Translation m) (Table n) e = absurd (let no : false ≡ true = e in cc)
key_eq-true (Table m) (Sector n) e = absurd (let no : false ≡ true = e in cc)
key_eq-true (Table m) (Translation n) e = absurd (let no : false ≡ true = e in cc)

pub key_eq-same : (a : Key) → key_eq a a ≡ true
key_eq-same (Sector m) = eq-eqb m m refl
key_eq-same (Translation m) = eq-eqb m m refl
key_eq-same (Table m) = eq-eqb m m refl

pub key_eq-other : (a b : Key) → a ≢ b → key_eq a b ≡ false
key_eq-other a b ne = elim (cases_Bool (key_eq a b)) [
  | inl is_so ↦ absurd (ne (key_eq-true a b is_so))
  | inr is_not ↦ is_not
]

-- two keys are the same or not
pub cases_key : (a b : Key) → (a ≡ b) ⊎ (a ≢ b)
cases_key a b = elim (cases_Bool (key_eq a b)) [
  | inl is_so ↦ inl (key_eq-true a b is_so)
  | inr is_not ↦ inr (λ same. let e : key_eq a b ≡ true = rw same (key_eq-same b) in cc)
]
