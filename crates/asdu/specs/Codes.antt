-- The standard's numbers by their names: the types of the file transfer (IEC 60870-5-101, 7.2.1.1, and 60870-5-104, 8.9), the actions of SCQ (7.2.6.30) and AFQ (7.2.6.32).
use Rattle.std.specs.Prelude.{ℕ}

-- ---- types

abbrev pub F_FR_NA_1 : ℕ
F_FR_NA_1 = 120

abbrev pub F_SR_NA_1 : ℕ
F_SR_NA_1 = 121

abbrev pub F_SC_NA_1 : ℕ
F_SC_NA_1 = 122

abbrev pub F_LS_NA_1 : ℕ
F_LS_NA_1 = 123

abbrev pub F_AF_NA_1 : ℕ
F_AF_NA_1 = 124

abbrev pub F_SG_NA_1 : ℕ
F_SG_NA_1 = 125

abbrev pub F_DR_TA_1 : ℕ
F_DR_TA_1 = 126

abbrev pub F_SC_NB_1 : ℕ
F_SC_NB_1 = 127

-- ---- SCQ

abbrev pub CALL_DIRECTORY : ℕ
CALL_DIRECTORY = 0

abbrev pub SELECT_FILE : ℕ
SELECT_FILE = 1

abbrev pub REQUEST_FILE : ℕ
REQUEST_FILE = 2

abbrev pub SELECT_SECTION : ℕ
SELECT_SECTION = 5

abbrev pub REQUEST_SECTION : ℕ
REQUEST_SECTION = 6

-- ---- AFQ

abbrev pub FILE_POSITIVE : ℕ
FILE_POSITIVE = 1

abbrev pub FILE_NEGATIVE : ℕ
FILE_NEGATIVE = 2

abbrev pub SECTION_POSITIVE : ℕ
SECTION_POSITIVE = 3

abbrev pub SECTION_NEGATIVE : ℕ
SECTION_NEGATIVE = 4
