-- THE WAY TO THE DIE OF A DISK OF C'S: two descriptors, of which nothing is known.
use Rattle.std.specs.Prelude.{◌≡◌, false, []}
use Rattle.page_layout.specs.declared.geometry.Geometry.{Geometry}
use Rattle.page_layout.specs.Raw.{still}
use Rattle.onfi_cycles.specs.Cycles.{Unreset}
use Rattle.ftl_disk.specs.Way.{WayCalls, WayWords, way_words}
use Rattle.ftl_disk.specs.declared.descriptors.Descriptors.{Descriptors}

-- the way to a die of this geometry over the same descriptors
abbrev pub way_of : Descriptors → Geometry → Descriptors
way_of link g = record { input = link.input; output = link.output; geometry = g }

-- the link has the same descriptors, and the way stays as it is
abbrev pub by_descriptors : WayCalls Descriptors
by_descriptors = record {
  goes = λ old p link new. (link ≡ way_of old p.geometry) × (new ≡ old);
  leaves = λ old die new. new ≡ old;
}

-- what is said of it: no pages are known, it is not honest, and an exchange leaves the descriptors
abbrev pub over_descriptors : WayWords Descriptors
over_descriptors = way_words by_descriptors (λ link. record { flash = still link.geometry []; phase = Unreset; status = 0 }) (λ link. still link.geometry []) (λ link. false) (λ link. false)
    (λ old head bytes status out new. new ≡ old)
