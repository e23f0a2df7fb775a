-- The table theorem: document 01's written values are those of the definitions.
use mathlib.Core.Path.{refl}
use Rattle.laws.specs.When.{when}
use Rattle.lists.specs.Parts.{div_ceil}
use Rattle.asdu.specs.Sizes.{element_room, segment_limit}
use Rattle.checksum.specs.Checksum.{octet_sum, sum_after}
use Rattle.sections.specs.Sections.{section_length, section_count, sections}
use Rattle.provide.specs.Record.{provider_made}
use Rattle.provide.specs.Table.{Written}

pub table_theorem : Written
unfolding section_length section_count sections div_ceil provider_made when sum_after octet_sum segment_limit element_room
table_theorem =
    record {
      empty = (refl, refl);
      one_section = (refl, refl);
      two_sections = (refl, refl);
      all_sections = (refl, refl);
      longer_sections = (refl, refl);
      longest = (refl, refl);
      too_long = λ p ioa nof a. simp (a.0, a.1);
      empty_section = refl;
      sum_of_none = refl;
      sum_of_two = refl;
      widest = λ z h o. simp (h, o);
      narrowest = λ z h o. simp (h, o);
    }
