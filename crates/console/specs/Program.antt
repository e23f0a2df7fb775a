-- The transfer program (document 01, A transfer script): a frame budget of 65,535, the conventional widths, common address 1, the Provider controlled.
use Rattle.std.specs.Prelude.{ℕ, List, Option, Some, None}
use Rattle.asdu.specs.declared.Nof.{Nof}
use Rattle.asdu.specs.declared.FtError.TheVariants.{ScriptMisshapen}
use Rattle.ft.specs.Procedure.{conventional}
use Rattle.ft.specs.declared.Role.TheVariants.{Controlled}
use Rattle.script.specs.Script.{Script}
use Rattle.run.specs.Loop.{Ran}
use Rattle.run.specs.Run.{two_party, refused}
use Rattle.twoparty.specs.declared.Settings.{Settings}

abbrev pub settings_with : ℕ → Nof → Settings
settings_with object nof = record { sizes = conventional; common_address = 1; ioa = object; nof = nof; role = Controlled }

-- with the budget
abbrev pub transferred : Settings → List ℕ → List ℕ → List ℕ → Ran
transferred s file damage store = two_party s file damage store 65535

-- how the script that a text is ends, with this store; a text that is none is 11
abbrev pub played : List ℕ → Option Script → Ran
played store None = refused store ScriptMisshapen
played store (Some s) = transferred (settings_with s.object (record { value = s.nof })) s.file s.damage store
