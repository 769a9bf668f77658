use Rattle.dr_disk.proofs.Images.{reads_image}
use Rattle.dr_disk.proofs.memory_disk.MemoryDiskDisk.sync.Goals as goal

pub returns-in_err-begin_call-clause-read : goal.returns-in_err-begin_call-clause-read
returns-in_err-begin_call-clause-read c = reads_image c.args.self.now.calls

pub returns-clause-read : goal.returns-clause-read
returns-clause-read c = reads_image c.args.self.now.calls
