-- The radio of a transfer script (document 01, A transfer script), by the section under way and the damaged sendings that are left of it.
use Rattle.std.specs.Prelude.{ℕ, ◌+◌, ◌-◌, Bool, true, List, [], ◌∷◌, ltb, length}
use Rattle.laws.specs.When.{when, ◌and◌}
use Rattle.sections.specs.Sections.{section_octets}
use Rattle.requests.specs.declared.Reply.{Reply}
use Rattle.requests.specs.declared.ProviderAnswer.{ProviderAnswer}
use Rattle.exchange.specs.Exchange.{is_section, is_sending}
use Rattle.exchange.specs.Damaging.{namings}
use Rattle.radio.specs.declared.Radio.{Radio}

-- section `nos` of a file cut into sections of `size` octets has octets
unfoldable pub has_octets : ℕ → List ℕ → ℕ → Bool
has_octets size file nos = ltb 0 (length (section_octets size file nos))

-- each section that is named does: else 11
abbrev pub all_have_octets : ℕ → List ℕ → List ℕ → Bool
all_have_octets size file [] = true
all_have_octets size file (d ∷ ds) = has_octets size file d and all_have_octets size file ds

-- before the first sending
abbrev pub first_section : List ℕ → Radio
first_section damage = record { section = 1; left = namings 1 damage }

-- after a section's intact sending; there are at most 255 sections
unfoldable pub next_section : List ℕ → Radio → Radio
next_section damage r =
    when (ltb r.section 255) (record { section = r.section + 1; left = namings (r.section + 1) damage })
    (record { section = r.section; left = 0 })

-- after one more sending
unfoldable pub after_sending : List ℕ → Radio → Radio
after_sending damage r = when (ltb 0 r.left) (record { section = r.section; left = r.left - 1 }) (next_section damage r)

-- whether the radio hits a reply: only a sending, and where damaged ones are left
unfoldable pub is_damaged : Radio → Reply → Bool
is_damaged r reply = is_section reply and ltb 0 r.left

-- the sendings to come after the Provider's answer
abbrev pub after_answer : List ℕ → Radio → ProviderAnswer → Radio
after_answer damage r a = when (is_sending a) (after_sending damage r) r
