-- The laws of the record file, proved.
use Rattle.file_record.specs.Laws.{Laws}
use Rattle.file_record.proofs.Files.{shape_fits}
use Rattle.file_record.proofs.RefusedWhere.{refused_where, only_11}
use Rattle.file_record.proofs.ReadsBack.{reads_back}
use Rattle.file_record.proofs.WrittenAgain.{written_again}
use Rattle.file_record.proofs.Limits.{says_what_fits, writes_bytes}

pub laws : Laws
laws =
    record {
      accepted = shape_fits;
      refused = refused_where;
      only_11 = only_11;
      reads_back = reads_back;
      writes_bytes = writes_bytes;
      written_again = written_again;
      says_what_fits = says_what_fits;
    }
