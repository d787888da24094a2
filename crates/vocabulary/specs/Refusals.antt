-- The paper's number of each refusal (01, "When the engine says no").
use Rattle.std.specs.Prelude.{ℕ}
use Rattle.vocabulary.specs.declared.refusal.Refusal.{Refusal}
use Rattle.vocabulary.specs.declared.refusal.Refusal.TheVariants.{FileSize, PartSizes, Limits, Pipes, RecordLayout, ListsItself, TotalCount}
use Rattle.vocabulary.specs.declared.refusal.Refusal.TheVariants.{Workers, Memory, NoLine, Ended, Early, WorkerBusy, Spoiled, RoundingPipe, Base, Lent}
use Rattle.vocabulary.specs.declared.refusal.Refusal.TheVariants.{OtherEvent, JournalDiffers, WrongWorker}

-- column "Returned" of the table; 13 and 26 as request 2.14 has them, 16 to 18 as 2.2, 19 as 2.3, 20 as 2.6
abbrev pub number_of : Refusal → ℕ
number_of FileSize = 1
number_of PartSizes = 2
number_of Limits = 3
number_of Pipes = 4
number_of RecordLayout = 5
number_of ListsItself = 6
number_of TotalCount = 7
number_of Workers = 8
number_of Memory = 9
number_of NoLine = 10
number_of Ended = 11
number_of Early = 12
number_of WorkerBusy = 13
number_of Spoiled = 14
number_of RoundingPipe = 16
number_of Base = 17
number_of Lent = 18
number_of OtherEvent = 19
number_of JournalDiffers = 20
number_of WrongWorker = 26
