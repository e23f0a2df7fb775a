-- The two stations of a transfer script: they have the same widths and common address and no originator, and select the transfer's direction (document 01, A transfer script).
use Rattle.std.specs.Prelude.{ℕ, true, false}
use Rattle.asdu.specs.declared.AddressSizes.{AddressSizes}
use Rattle.ft.specs.declared.Role.{Role}
use Rattle.ft.specs.declared.Role.TheVariants.{Controlling, Controlled}
use Rattle.ft.specs.declared.Selection.{Selection}
use Rattle.ft.specs.declared.FileTransferProcedure.{FileTransferProcedure}

-- the direction in which a Provider of this role sends
abbrev pub providing : Role → Selection
providing Controlled = record { monitor = true; control = false }
providing Controlling = record { monitor = false; control = true }

-- by the widths, the common address, the Provider's role and the station's own
abbrev pub station_with : AddressSizes → ℕ → Role → Role → FileTransferProcedure
station_with z ca provider role = record { role = role; selection = providing provider; ca = ca; org = 0; sizes = z }
