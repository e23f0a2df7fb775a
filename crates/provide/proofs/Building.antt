-- Every frame of a reply can be built: a Provider that was asked in a direction that it uses meets none of `build`'s refusals.
use Prim.Native.Nat.{ℕ, ◌-◌, ◌≤◌, ◌<◌}
use mathlib.Core.Path.{◌≡◌, refl}
use mathlib.Core.Bool.{Bool, true, false}
use mathlib.Core.List.{List, [], ◌∷◌, ◌++◌, map}
use native.Mathlib.Nat.{le_trans, min-le_right}
use native.Mathlib.Omega.{arith}
use lib.Dec.{leb}
use lib.ListN.{length}
use borrow.Author.Tests.{leb-true, le-leb, eq-eqb}
use Rattle.std.specs.Prelude.{Ok}
use Rattle.laws.specs.When.{when, ◌and◌}
use Rattle.lists.proofs.Parts.{Fit, fit_all}
use Rattle.asdu.specs.Sizes.{within, sizes_right, header_len, element_room, segment_limit}
use Rattle.asdu.specs.Elements.{los_in_range}
use Rattle.asdu.proofs.Range.{both}
use Rattle.asdu.specs.declared.Nos.{Nos}
use Rattle.asdu.specs.declared.AddressSizes.{AddressSizes}
use Rattle.frame.specs.Frames.{receiver_side, last_ioa}
use Rattle.frame.specs.Ranges.{segment_in_range, values_in_range}
use Rattle.ft.specs.Directions.{uses_function}
use Rattle.ft.specs.Procedure.{settled, address_right, addressed}
use Rattle.ft.specs.Admission.{serves}
use Rattle.ft.specs.Building.{header_of, framed, built}
use Rattle.ft.specs.declared.Role.{Role}
use Rattle.ft.specs.declared.Role.TheVariants.{Controlling, Controlled}
use Rattle.ft.specs.declared.FileTransferProcedure.{FileTransferProcedure}
use Rattle.sections.specs.Sections.{segments}
use Rattle.provide.specs.Record.{file_agrees}
use Rattle.provide.specs.Replies.{Packet, bare, octets_of, limit_of, segment_packet, close_frame, replies}
use Rattle.provide.specs.declared.Provider.{Provider}
use Rattle.requests.specs.declared.Reply.{Reply}
use Rattle.requests.specs.declared.Reply.TheVariants.{Nothing, FileReady, SectionReady, Section, FileClose}
use Rattle.sections.proofs.SectionLaws.{section_within}
use Rattle.provide.proofs.Making.{agrees}

-- ---- stations

or_right : (a b : Bool) → b ≡ true → when a true b ≡ true
unfolding when
or_right true b e = refl
or_right false b e = e

-- a station that uses a direction uses the function
pub uses : (p : FileTransferProcedure) (r : Role) (b : Bool) → serves p r b ≡ true → uses_function p.selection ≡ true
unfolding serves uses_function when
uses p Controlling true e = rw e
uses p Controlled false e = rw e
uses p Controlling false e = or_right p.selection.monitor p.selection.control e
uses p Controlled true e = or_right p.selection.monitor p.selection.control e

within_most : (low high x : ℕ) → within low high x ≡ true → x ≤ high
unfolding within
within_most low high x e = leb-true x high (both (leb low x) (leb x high) e).1

limit_wide : (z : AddressSizes) → sizes_right z ≡ true → 0 < segment_limit z
unfolding sizes_right segment_limit element_room header_len
limit_wide z e =
    let (c, rest) = both (within 1 2 z.cause_octets) (within 1 2 z.common_address_octets and within 1 3 z.information_object_address_octets) e in
    let (a, o) = both (within 1 2 z.common_address_octets) (within 1 3 z.information_object_address_octets) rest in
    omega (arith, within_most 1 2 z.cause_octets c, within_most 1 2 z.common_address_octets a, within_most 1 3 z.information_object_address_octets o)

abbrev rights : FileTransferProcedure → Type 0
rights p = (sizes_right p.sizes ≡ true) × (address_right p.sizes p.ca p.org ≡ true)

split : (p : FileTransferProcedure) → settled p ≡ true → rights p
unfolding settled
split p e = both (sizes_right p.sizes) (address_right p.sizes p.ca p.org) e

-- no segment has more than LOS can say
pub limit_most : (z : AddressSizes) → segment_limit z ≤ 240
unfolding segment_limit
limit_most z = min-le_right (element_room z - 4) 240

-- a segment of a station holds something, whatever its widths
pub wide : (p : FileTransferProcedure) → settled p ≡ true → 0 < segment_limit p.sizes
wide p e = limit_wide p.sizes (split p e).0

-- ---- frames

abbrev pub Built : FileTransferProcedure → Packet → Type 0
Built p x = built p x.frame x.payload ≡ Ok (record { header = header_of p.ca p.org x.frame; frame = x.frame })

abbrev pub AllBuilt : FileTransferProcedure → List Packet → Type 0
AllBuilt p [] = Unit {0}
AllBuilt p (x ∷ xs) = Built p x × AllBuilt p xs

all_join : (p : FileTransferProcedure) (xs ys : List Packet) → AllBuilt p xs → AllBuilt p ys → AllBuilt p (xs ++ ys)
all_join p [] ys h k = k
all_join p (x ∷ xs) ys h k = (h.0, all_join p xs ys h.1 k)

module _ (p : Provider) (file : List ℕ) (agreed : file_agrees p file ≡ true) (served : serves p.procedure p.procedure.role false ≡ true) where
  one_built : (x : Packet) → receiver_side x.frame ≡ false → last_ioa x.frame x.payload ≡ p.ioa → values_in_range p.procedure.sizes x.frame x.payload ≡ true → Built p.procedure x
  unfolding built framed addressed settled when
  one_built x side object fits =
      let g = agrees p file agreed in
      let s = split p.procedure g.settings in
      simp (s.0, s.1, uses p.procedure p.procedure.role false served, side, served, fits, object, g.object)

  module _ (nos : Nos) where
    segments_built : (os : List (List ℕ)) → Fit (limit_of p) os → AllBuilt p.procedure (map (segment_packet p nos) os)
    unfolding segment_in_range los_in_range when
    segments_built [] fit = tt
    segments_built (o ∷ os) fit = (
      one_built (segment_packet p nos o) refl refl (simp (
        le-leb 1 (length o) fit.0,
        le-leb (length o) 240 (le_trans fit.1 (limit_most p.procedure.sizes)),
        eq-eqb (length o) (length o) refl,
        le-leb (length o) (limit_of p) fit.1,
      )),
      segments_built os fit.2,
    )

    section_short : length (octets_of p file nos) ≤ 0xFFFFFF
    section_short =
        let g = agrees p file agreed in
        omega (arith, section_within p.section_len file nos.value, leb-true p.length 0xFFFFFF g.short, g.length)

  pub replies_built : (r : Reply) → AllBuilt p.procedure (replies p file r)
  unfolding segments when
  replies_built Nothing = tt
  replies_built FileReady = (one_built _ refl refl (simp (agrees p file agreed).short), tt)
  replies_built (SectionReady nos) = (one_built _ refl refl (simp (le-leb _ _ (section_short nos))), tt)
  replies_built (Section nos) =
      all_join p.procedure (map (segment_packet p nos) (segments (limit_of p) (octets_of p file nos))) _
      (segments_built nos (segments (limit_of p) (octets_of p file nos)) (fit_all (limit_of p) (wide p.procedure (agrees p file agreed).settings) (octets_of p file nos)))
      (one_built (bare (close_frame p nos 3 (octets_of p file nos))) refl refl refl, tt)
  replies_built (FileClose nos) = (one_built (bare (close_frame p nos 1 file)) refl refl refl, tt)
