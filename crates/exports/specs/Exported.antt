-- What a program in C or Rust gives a run and gets of it, as numbers.
use Rattle.std.specs.Prelude.{ℕ, Bool, true, false, List, Result, Ok, Err}
use Rattle.asdu.specs.Number.{number_of}
use Rattle.ft.specs.declared.Role.{Role}
use Rattle.ft.specs.declared.Role.TheVariants.{Controlling, Controlled}
use Rattle.twoparty.specs.declared.Settings.{Settings}
use Rattle.run.specs.Loop.{Ran}
use Rattle.run.specs.Run.{two_party}
use Rattle.run.specs.declared.Ending.{Ending}
use Rattle.run.specs.declared.Ending.TheVariants.{Whole, Spent}
use Rattle.asdu.specs.declared.FtError.{FtError}

abbrev pub role_of : Bool → Role
role_of true = Controlling
role_of false = Controlled

-- widths of cause, common address and object address in octets; common address, object address and name of the file; whether the Provider is the controlling station
abbrev pub settings_of : ℕ → ℕ → ℕ → ℕ → ℕ → ℕ → Bool → Settings
settings_of cause common object ca ioa nof controlling =
    record {
      sizes = record { cause_octets = cause; common_address_octets = common; information_object_address_octets = object };
      common_address = ca;
      ioa = ioa;
      nof = record { value = nof };
      role = role_of controlling;
    }

-- the run of these numbers
abbrev pub run_of : ℕ → ℕ → ℕ → ℕ → ℕ → ℕ → Bool → List ℕ → List ℕ → List ℕ → ℕ → Ran
run_of cause common object ca ioa nof controlling file damage store budget = two_party (settings_of cause common object ca ioa nof controlling) file damage store budget

-- 0 for a whole run, 255 for a spent one, else document 01's number
abbrev pub end_number : Result Ending FtError → ℕ
end_number (Ok (Whole length frames)) = 0
end_number (Ok (Spent frames)) = 255
end_number (Err e) = number_of e

-- the frames that passed; none of a refused run
abbrev pub end_frames : Result Ending FtError → ℕ
end_frames (Ok (Whole length frames)) = frames
end_frames (Ok (Spent frames)) = frames
end_frames (Err e) = 0
