-- The number of each refusal. Document 01: 1 to 11 because of the input, 21 to 26 because of the state. Document 02, A3: 27 and 28, of a directory page to print; A8: 29 and 30, of a frame's body that is written; A9: 31, of one that is read; A14: 33, of a window over the last transfers.
use Rattle.std.specs.Prelude.{ℕ}
use Rattle.asdu.specs.declared.FtError.{FtError}
use Rattle.asdu.specs.declared.FtError.TheVariants as E

abbrev pub number_of : FtError → ℕ
number_of E.FileTooLong = 1
number_of E.InvalidAddressSizes = 2
number_of E.AddressOutOfRange = 3
number_of E.ValueOutOfRange = 4
number_of E.EmptySegment = 5
number_of E.SegmentTooLong = 6
number_of E.CallDirectoryAction = 7
number_of E.ChecksumMismatch = 8
number_of E.IndexOutOfRange = 9
number_of E.Undecodable = 10
number_of E.ScriptMisshapen = 11
number_of E.FunctionNotUsed = 21
number_of E.NotSelectedDirection = 22
number_of E.EchoMismatch = 23
number_of E.StoreFull = 24
number_of E.DirectoryFull = 25
number_of E.RecordMismatch = 26
number_of E.NotPrintable = 27
number_of E.PageTooShort = 28
number_of E.UnsupportedType = 29
number_of E.BufferTooShort = 30
number_of E.MalformedBody = 31
number_of E.InvalidWindow = 33
