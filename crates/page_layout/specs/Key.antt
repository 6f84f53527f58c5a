-- What a page is of: a sector, a translation page or a table page, by number.
use Rattle.std.specs.Prelude.{ℕ, Bool, false, ◌==◌}
use Rattle.page_layout.specs.declared.record.Kind.{Kind}
use Rattle.page_layout.specs.declared.record.Kind.TheVariants as kind
use Rattle.page_layout.specs.declared.record.Key.{Key}
use Rattle.page_layout.specs.declared.record.Key.TheVariants.{Sector, Translation, Table}
use Rattle.page_layout.specs.declared.record.Record.{Record}

-- the key of a page of this kind and number: a trim is a page of its sector
abbrev pub key_from : Kind → ℕ → Key
key_from kind.Sector n = Sector n
key_from kind.Trim n = Sector n
key_from kind.Translation n = Translation n
key_from kind.Table n = Table n

-- the key of a record
abbrev pub key_of : Record → Key
key_of r = key_from r.kind r.number

-- whether two keys are the same
abbrev pub key_eq : Key → Key → Bool
key_eq (Sector m) (Sector n) = m == n
key_eq (Translation m) (Translation n) = m == n
key_eq (Table m) (Table n) = m == n
key_eq _ _ = false
